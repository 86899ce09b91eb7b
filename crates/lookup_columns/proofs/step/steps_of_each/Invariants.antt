use Rattle.std.proofs.Common.{take}
use Rattle.std.specs.List.{AllZip}
use Rattle.lookup_columns.specs.Steps.{AreStepsOf}
use Rattle.lookup_columns.proofs.step.steps_of_each.Given as goal

abbrev pub invariant-loop-expression : goal.invariant-loop-expression
invariant-loop-expression g l = AllZip AreStepsOf l.all.items (take l.expression-index l.expressions)
