use Rattle.std.proofs.Common.{◌≡◌, ◌<◌, List, length, map, drop}
use Rattle.std.specs.List.{AllByRecursion}
use Rattle.lookup.specs.Cuts.{IsCut}
use Rattle.check_judge.specs.declared.sharing.LookupTuples.{LookupTuples}
use Rattle.check_judge.proofs.CutLaws.{AreCutSoFar, held}
use Rattle.check_judge.proofs.sharing.sharing.Given as goal

abbrev pub invariant-loop-member : goal.invariant-loop-member
invariant-loop-member g l =
    (cuts : List (LookupTuples × List LookupTuples)) → IsCut cuts l.order → AllByRecursion (λ member. 0 < member.tuples) l.order → map (held (λ member. member.tuples)) cuts ≡ map (λ column. length column.elements.items) l.packed
    → AreCutSoFar (λ member. member.tuples) (λ member. member.number) cuts (map (λ members. members.items) l.columns.items) l.members.items l.tuples (drop l.member-index l.order)
