use Rattle.std.proofs.Common.{◌≡◌, ◌++◌, drop, map}
use Rattle.language.specs.Items.{placed_of}
use Rattle.check_judge.specs.Counts.{counts_in}
use Rattle.check_judge.proofs.counts.counts_of.Given as goal

-- what is said so far and by the items that are left is what all items say
abbrev pub invariant-loop-item : goal.invariant-loop-item
invariant-loop-item l = map (λ c. c.items) l.counts.items ++ counts_in (map placed_of (drop l.item-index l.items)) ≡ counts_in (map placed_of l.items)
