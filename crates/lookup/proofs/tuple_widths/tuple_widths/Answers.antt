use Rattle.std.proofs.Common.{inr, refl}
use Rattle.lookup.proofs.tuple_widths.tuple_widths.Goals as goal

pub returns-in-Ok : goal.returns-in-Ok
returns-in-Ok c = inr (record { text = c.in-Ok.context; text_is = c.in-Ok.ensures.ok; error_is = refl })
