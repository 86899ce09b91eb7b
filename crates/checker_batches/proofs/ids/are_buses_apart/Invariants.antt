use Rattle.std.proofs.Common.{◌<◌, ℕ, length}
use Rattle.checker_batches.specs.internal.Identified.{AgreesBelow}
use Rattle.checker_batches.proofs.ids.are_buses_apart.Given as goal

abbrev pub invariant-loop-index : goal.invariant-loop-index
invariant-loop-index g l = (i : ℕ) → i < l.index → AgreesBelow l.all i (length l.all)
