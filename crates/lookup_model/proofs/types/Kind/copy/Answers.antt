use Rattle.std.specs.Prelude.{Some}
use Rattle.std.proofs.Common.{sym, ap, ◌∙◌}
use Rattle.lookup_model.specs.Outline.{bus_of}
use Rattle.lookup_model.proofs.types.Kind.copy.Goals as goal

pub returns-in-Local : goal.returns-in-Local
returns-in-Local c = ap bus_of (sym c.in-Local.is)

pub returns-in_ok-from_str-in-Global : goal.returns-in_ok-from_str-in-Global
returns-in_ok-from_str-in-Global c = ap Some (c.in_ok-from_str-in-Global.ensures.ok ∙ c.as_str.ensures.value) ∙ ap bus_of (sym c.in-Global.is)
