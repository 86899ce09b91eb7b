use Rattle.std.proofs.Common.{◌≡◌, drop, map}
use Rattle.language_meaning.specs.Scopes.{defined_of, definition}
use Rattle.language_meaning.proofs.scope.defined_value.Given as goal

abbrev pub invariant-loop-item : goal.invariant-loop-item
invariant-loop-item l = definition l.name (map defined_of l.defined) ≡ definition l.name (map defined_of (drop l.item-index l.defined))
