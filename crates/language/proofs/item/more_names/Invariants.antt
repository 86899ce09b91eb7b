use Rattle.std.proofs.Common.{◌≡◌, ◌-◌, ◌∷◌, [], length}
use Rattle.language.specs.Items.{more_name}
use Rattle.language.specs.Lists.{many, with_front}
use Rattle.language.proofs.item.more_names.Given as goal

-- the parts so far and those that are left are all
abbrev pub invariant-loop : goal.invariant-loop
invariant-loop l = with_front l.values.items (many more_name (length l.tokens - l.counter) l.left) ≡ with_front (l.fn.first ∷ []) (many more_name (length l.tokens) l.tokens)
