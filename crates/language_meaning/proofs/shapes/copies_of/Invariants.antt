use Rattle.std.proofs.Common.{◌≡◌, map, take}
use Rattle.language_meaning.specs.Scopes.{bytes_in}
use Rattle.language_meaning.specs.Tables.{names_in}
use Rattle.language_meaning.proofs.shapes.copies_of.Given as goal

abbrev pub invariant-loop-name : goal.invariant-loop-name
invariant-loop-name l = names_in l.copies.items ≡ map (λ s. bytes_in s l.text) (take l.name-index l.names)
