use Rattle.std.proofs.Common.{◌≡◌, ◌-◌, length, map}
use Rattle.language.specs.Items.{more_part, group_part_of}
use Rattle.language.specs.Lists.{many, with_front}
use Rattle.language.proofs.item.all_parts.Given as goal

-- the parts so far and those that are left are all
abbrev pub invariant-loop : goal.invariant-loop
invariant-loop l = with_front (map group_part_of l.values.items) (many (more_part l.exclusive) (length l.tokens - l.counter) l.left) ≡ many (more_part l.exclusive) (length l.tokens) l.tokens
