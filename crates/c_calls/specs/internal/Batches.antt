-- The results of calls on the batch that tables encode.
use Rattle.std.specs.Prelude.{◌<◌, ◌≤◌, ℕ, List, MatchResult, Result, length}
use Rattle.std.specs.declared.alloc.Global.{Global}
use Rattle.std.specs.declared.vec.Vec.{Vec}
use Rattle.field.specs.Extension.{Extension}
use Rattle.field_monty.specs.Quartic.{Quartic}
use Rattle.field.specs.Residue.{Residue}
use Rattle.lookup_model.specs.declared.witness.Witness.{Witness}
use Rattle.c_tables.specs.declared.tables.Tables.{Tables}
use Rattle.c_tables.specs.declared.traces.Traces.{Traces}
use Rattle.c_calls.specs.DebugNumbers.{TellsTables}
use Rattle.c_calls.specs.GridCount.{GridCountIsNumbers, IsGridCountRefusal}
use Rattle.c_calls.specs.Prove.{HasProveRoom, IsProveCallRefusal, ProvesNumbers, ProvesTables}
use Rattle.c_calls.specs.Verify.{IsVerifyRefusal, VerifiesTables}
use Rattle.c_calls.specs.declared.batch_tables.Air.{Air}
use Rattle.c_calls.specs.declared.debug_numbers.Asked.{Asked}
use Rattle.c_calls.specs.declared.fault.Fault.{Fault}
use Rattle.c_calls.specs.declared.grid_count.Grid.{Grid}
use Rattle.c_calls.specs.declared.outputs.Terminal.{Terminal}
use Rattle.c_calls.specs.declared.witness.AirWitness.{AirWitness}

module _ {p : ℕ} (positive : 0 < p) (E : Extension (Residue p) (Quartic (Residue p))) (airs : List Air) (traces : List Traces) where
  -- a witness of exactly so many cells and terminals, or a refusal
  abbrev pub ResultOfProveInRoom : List ℕ → List ℕ → ℕ → ℕ → Result (Witness (Quartic (Residue p))) Fault → Type 0
  ResultOfProveInRoom alpha beta cells terminals result =
      MatchResult result (λ witness. ProvesTables positive E airs traces alpha beta witness × HasProveRoom witness cells terminals) (IsProveCallRefusal positive E airs traces alpha beta cells terminals)

  -- the numbers of such a witness, or a refusal
  abbrev pub ResultOfProve : List ℕ → List ℕ → ℕ → ℕ → List (List ℕ) → List Terminal → Result (Unit {0}) Fault → Type 0
  ResultOfProve alpha beta room terminals_room cells terminals result =
      MatchResult result (λ _. ProvesNumbers positive E airs traces alpha beta cells terminals) (IsProveCallRefusal positive E airs traces alpha beta room terminals_room)

  -- a witness is accepted, or a refusal
  abbrev pub ResultOfVerify : List ℕ → List ℕ → List AirWitness → Result (Unit {0}) Fault → Type 0
  ResultOfVerify alpha beta witness result =
      MatchResult result (λ _. VerifiesTables positive E airs traces alpha beta witness) (IsVerifyRefusal positive E airs traces alpha beta witness)

  -- the numbers of a count over a grid, or a refusal
  abbrev pub ResultOfGridCount : List (List ℕ) → List (List ℕ) → Grid → Result (Unit {0}) Fault → Type 0
  ResultOfGridCount alphas betas numbers result =
      MatchResult result (λ _. GridCountIsNumbers positive E airs traces alphas betas numbers) (IsGridCountRefusal positive E airs traces alphas betas)

-- the numbers of what is asked, for which there is room
abbrev pub TellsInRoom : {p : ℕ} → 0 < p → Extension (Residue p) (Quartic (Residue p)) → Asked → List Tables → List Traces → ℕ → ℕ → Vec ℕ Global → Type 0
TellsInRoom positive E asked airs traces limit room made = TellsTables positive E asked airs traces limit made.items × (length made.items ≤ room)
