use Rattle.std.proofs.Common.{sym, ap, ◌∙◌}
use Rattle.field.specs.laws.RingFacts.{zero_mul}
use Rattle.lookup_model.specs.Sent.{value}
use Rattle.lookup_messages.specs.TraceBuilder.{builder_window}
use Rattle.lookup_debug.proofs.contributions.flagged_amount.Goals as goal

pub returns : goal.returns
returns g c =
    g.met.F.PrimeCharacteristicRing.mul_is _ _ _ c.mul.ensures ∙ (λ k. g.F.PrimeCharacteristicRing.ring.mul (c.value_of-flag.ensures k) (c.value_of.ensures k))

pub returns-then-is_zero : goal.returns-then-is_zero
returns-then-is_zero g c =
    let R = g.F.PrimeCharacteristicRing.ring in
    let count = value R (builder_window c.args.builder.now) c.args.count.now in
    let none = sym c.value_of-flag.ensures ∙ c.is_zero.ensures.0 c.if-is_zero.true in
    c.ZERO.ensures ∙ g.met.F.PrimeCharacteristicRing.zero_is ∙ sym (ap (λ f. R.mul f count) none ∙ zero_mul g.F.PrimeCharacteristicRing.lawful count)
