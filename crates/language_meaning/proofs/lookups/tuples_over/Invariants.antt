use Rattle.std.proofs.Common.{◌≡◌, ◌++◌, drop, map, take}
use Rattle.air_expressions.specs.Tree.{tree_of}
use Rattle.field.specs.Ring.{of_nat}
use Rattle.language_meaning.specs.Lookups.{sent_part_of}
use Rattle.language_meaning.specs.Values.{meant_of}
use Rattle.language_meaning.specs.Columns.{flag_or_one}
use Rattle.language_meaning.specs.Expressions.{tree_in}
use Rattle.language_meaning.proofs.lookups.tuples_over.Given as goal

abbrev pub invariant-loop-part : goal.invariant-loop-part
invariant-loop-part g l = map (λ tuple. map tree_of tuple.items) l.tuples.items ≡ map (λ p. map (tree_in (of_nat g.F.PrimeCharacteristicRing.ring)) p.message.tuple) (map sent_part_of (take l.part-index l.parts))
