use Rattle.std.proofs.Common.{◌≡◌, map, take}
use Rattle.air_expressions.specs.Tree.{tree_of}
use Rattle.field.specs.Ring.{of_nat}
use Rattle.language_meaning.specs.Columns.{constraints_in}
use Rattle.language_meaning.specs.Lookups.{constraint_of}
use Rattle.language_meaning.proofs.constraint.constraints_over.Given as goal

abbrev pub invariant-loop-constraint : goal.invariant-loop-constraint
invariant-loop-constraint g l =
    map tree_of l.constraints.items ≡ constraints_in (of_nat g.F.PrimeCharacteristicRing.ring) (map constraint_of (take l.constraint-index l.named))
