use Rattle.std.proofs.Common.{take}
use Rattle.std.specs.List.{AllZip}
use Rattle.lookup_columns.specs.LookupSteps.{AreLookupSteps}
use Rattle.lookup_columns.proofs.lookup_steps.steps_of_lookups.Given as goal

abbrev pub invariant-loop-lookup : goal.invariant-loop-lookup
invariant-loop-lookup g l = AllZip AreLookupSteps l.steps.items (take l.lookup-index l.lookups)
