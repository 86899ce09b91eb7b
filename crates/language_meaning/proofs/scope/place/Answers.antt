use Rattle.std.proofs.Common.{sym, ◌∙◌}
use Rattle.language_meaning.proofs.ScopeLaws.{place_of-items}
use Rattle.language_meaning.proofs.scope.place.Goals as goal

pub returns : goal.returns
returns c = c.first_place.ensures ∙ sym (place_of-items c.args.name.now c.args.columns.now)
