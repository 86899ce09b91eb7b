use Rattle.std.proofs.Common.{◌≡◌, ◌-◌, ◌∷◌, [], length, map}
use Rattle.language.specs.Formulas.{formula_of}
use Rattle.language.specs.Lists.{many, with_front}
use Rattle.language.specs.Messages.{more_formula}
use Rattle.language.proofs.message.more_values.Given as goal

-- the expressions so far and those that are left are those of the tuple
abbrev pub invariant-loop : goal.invariant-loop
invariant-loop l = with_front (map formula_of l.values.items) (many more_formula (length l.tokens - l.counter) l.left) ≡ with_front (formula_of l.fn.first ∷ []) (many more_formula (length l.tokens) l.tokens)
