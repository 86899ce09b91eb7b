use Rattle.std.proofs.Common.{inr, refl}
use Rattle.lookup.proofs.tuple_widths.assert_bus_width.Goals as goal

pub returns-in_ok-context-in-Some : goal.returns-in_ok-context-in-Some
returns-in_ok-context-in-Some g c = inr (record {
  width = c.in-Some.widths.first;
  other = c.in-Some.widths.other;
  differ = c.in-Some.ensures;
  refusal = record { text = c.in_ok-context-in-Some.context; text_is = c.in_ok-context-in-Some.ensures.ok; error_is = refl };
})
