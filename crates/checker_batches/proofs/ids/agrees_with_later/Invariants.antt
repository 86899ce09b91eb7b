use Rattle.checker_batches.specs.internal.Identified.{AgreesBelow}
use Rattle.checker_batches.proofs.ids.agrees_with_later.Given as goal

abbrev pub invariant-loop-later : goal.invariant-loop-later
invariant-loop-later g l = AgreesBelow l.all l.fn.index l.later
