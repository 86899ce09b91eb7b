use Rattle.std.proofs.Common.{◌≡◌, drop, map}
use Rattle.language.specs.Formulas.{formula_of}
use Rattle.language_meaning.specs.Messages.{all_meant}
use Rattle.language_meaning.specs.Scopes.{names_of}
use Rattle.language_meaning.specs.Values.{meant_of}
use Rattle.language_meaning.proofs.MessageLaws.{with_values}
use Rattle.language_meaning.proofs.message.values_of.Given as goal

-- the values so far and those of the expressions that are left are those of all
abbrev pub invariant-loop-tree : goal.invariant-loop-tree
invariant-loop-tree l = with_values (map meant_of l.values.items) (all_meant (names_of l.scope) (map formula_of (drop l.tree-index l.trees)) l.left) ≡ all_meant (names_of l.scope) (map formula_of l.trees) l.initial.left
