-- How refusals come about.
use Rattle.std.specs.Prelude.{◌≡◌, ℕ, List, string_bytes}
use Rattle.std.specs.declared.alloc.Global.{Global}
use Rattle.std.specs.declared.string.String.{String}
use Rattle.batch.specs.declared.error.BatchError.{BatchError}
use Rattle.batch.specs.declared.error.BatchError.TheVariants as batch
use Rattle.example_machines.specs.declared.error.RunError.{RunError}
use Rattle.example_machines.specs.declared.error.RunError.TheVariants.{Batch, Memory}

-- the refusal of a batch; out of memory keeps its name
abbrev pub of_batch : BatchError → RunError
of_batch batch.Memory = Memory
of_batch e = Batch e

-- a refusal that shows a word
abbrev pub ShowsWord : (String Global → RunError) → List ℕ → RunError → Type 0
ShowsWord refusal word e = (shown : String Global) × (string_bytes shown ≡ word) × (e ≡ refusal shown)
