use Rattle.std.proofs.Common.{◌≡◌, ◌++◌, drop, map, take}
use Rattle.air_expressions.specs.Tree.{tree_of}
use Rattle.field.specs.Ring.{of_nat}
use Rattle.language_meaning.specs.Lookups.{sent_part_of}
use Rattle.language_meaning.specs.Values.{meant_of}
use Rattle.language_meaning.specs.Columns.{flag_or_one}
use Rattle.language_meaning.specs.Expressions.{tree_in}
use Rattle.language_meaning.proofs.lookups.tuple_over.Given as goal

abbrev pub invariant-loop-value : goal.invariant-loop-value
invariant-loop-value g l = map tree_of l.tuple.items ≡ map (tree_in (of_nat g.F.PrimeCharacteristicRing.ring)) (map meant_of (take l.value-index l.values))
