use Rattle.std.proofs.Common.{◌≡◌, ◌+◌, drop, map, max}
use Rattle.language_meaning.specs.Lookups.{sent_part_of}
use Rattle.language_meaning.specs.Columns.{greatest_weight, sum_of_weights}
use Rattle.language_meaning.proofs.lookups.greatest_weight.Given as goal

-- the greatest so far and that of the messages that are left is that of all
abbrev pub invariant-loop-part : goal.invariant-loop-part
invariant-loop-part l = max (greatest_weight (map sent_part_of (drop l.part-index l.parts))) l.most ≡ greatest_weight (map sent_part_of l.parts)
