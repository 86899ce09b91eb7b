use Rattle.std.proofs.Common.{◌≡◌, map, take}
use Rattle.language.specs.Items.{group_part_of}
use Rattle.check_judge.specs.Counts.{count_of}
use Rattle.check_judge.proofs.counts.counts_of_parts.Given as goal

abbrev pub invariant-loop-part : goal.invariant-loop-part
invariant-loop-part l = l.counts.items ≡ map (λ p. count_of (group_part_of p).message) (take l.part-index l.parts)
