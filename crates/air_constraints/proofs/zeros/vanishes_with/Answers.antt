use Rattle.std.proofs.Common.{◌≡◌, false, true, ap, arith}
use Rattle.std.proofs.lemmas.Bool.{eqb-true}
use Rattle.air_constraints.specs.Polynomials.{sum_at}
use Rattle.air_constraints.proofs.RecogniseLaws.{multiple_vanishes, nothing}
use Rattle.air_constraints.proofs.zeros.vanishes_with.Goals as goal

pub returns : goal.returns
returns g c = λ t w so is_zero.
    let R = g.F.PrimeCharacteristicRing.ring in
    let laws = g.F.PrimeCharacteristicRing.lawful in
    let domain = g.met.F.Domain.domain in
    let none = nothing laws domain w c.add_multiple-2.new.sum.items (omega (arith, eqb-true c.len-left.result 0 t, c.len-left.ensures)) in
    multiple_vanishes laws domain _ _ (sum_at R w c.args.terms.now) (sum_at R w c.args.zero.now) _ _ _ (ap (sum_at R w) c.new-difference.ensures.items)
    (λ e. let f : false ≡ true = c.if-is_zero.ensures.1 e in absurd (cc f))
    (c.in_ok-add_multiple.ensures w so) (c.in_ok-add_multiple-2.ensures w so) none is_zero
