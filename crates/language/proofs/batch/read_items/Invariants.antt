use Rattle.std.proofs.Common.{◌≡◌, ◌-◌, length, map}
use Rattle.language.specs.Batches.{more_item}
use Rattle.language.specs.Items.{placed_of}
use Rattle.language.specs.Lists.{many, with_front}
use Rattle.language.proofs.batch.read_items.Given as goal

-- the parts so far and those that are left are all
abbrev pub invariant-loop : goal.invariant-loop
invariant-loop l = with_front (map placed_of l.values.items) (many more_item (length l.tokens - l.counter) l.left) ≡ many more_item (length l.tokens) l.tokens
