use Rattle.std.proofs.Common.{take}
use Rattle.std.specs.List.{AllZip}
use Rattle.lookup_columns.specs.LookupSteps.{AreTupleSteps}
use Rattle.lookup_columns.proofs.lookup_steps.steps_of_tuples.Given as goal

abbrev pub invariant-loop-tuple : goal.invariant-loop-tuple
invariant-loop-tuple g l = AllZip AreTupleSteps l.tuples.items (take l.tuple-index l.lookup.elements.items)
