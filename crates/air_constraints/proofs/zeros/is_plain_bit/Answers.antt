use Rattle.std.proofs.Common.{sym, ap, ◌∙◌}
use Rattle.air_constraints.specs.Polynomials.{sum_at}
use Rattle.air_constraints.proofs.BitLaws.{bit_from_square}
use Rattle.air_constraints.proofs.zeros.is_plain_bit.Goals as goal

pub returns-in_ok-is_zero-in-Ok : goal.returns-in_ok-is_zero-in-Ok
returns-in_ok-is_zero-in-Ok g c = λ t w so.
    let R = g.F.PrimeCharacteristicRing.ring in
    bit_from_square g.F.PrimeCharacteristicRing.lawful g.met.F.Domain.domain (sum_at R w c.args.terms.now) (sym (c.in-Ok.ensures w so) ∙ sym (ap (sum_at R w) c.as_slice.ensures.value) ∙ c.in_ok-is_zero-in-Ok.ensures t w so)
