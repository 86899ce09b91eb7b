use Rattle.std.proofs.Common.{ap, subst, ◌∙◌}
use Rattle.air_constraints.specs.Facts.{IsBit}
use Rattle.air_constraints.specs.Polynomials.{sum_at}
use Rattle.air_constraints.proofs.RecogniseLaws.{beside}
use Rattle.air_constraints.proofs.zeros.is_bit_beside.Goals as goal

pub returns : goal.returns
returns g c = λ t w so is_zero.
    let R = g.F.PrimeCharacteristicRing.ring in
    let I : g.row.F.Denot → Type 0 = IsBit R in
    let same = beside g.F.PrimeCharacteristicRing.lawful g.met.F.Domain.domain _ _ _ c.ONE.result (sum_at R w c.args.terms.now) c.args.by (sum_at R w c.args.zero.now)
    (ap (sum_at R w) c.new-shifted.ensures.items) (c.ONE.ensures ∙ g.met.F.PrimeCharacteristicRing.one_is) (c.in_ok-add_multiple.ensures w so) (c.in_ok-add_multiple-2.ensures w so) is_zero in
    subst I (ap (sum_at R w) c.as_slice.ensures.value ∙ same) (c.in_ok-is_plain_bit.ensures t w so)
