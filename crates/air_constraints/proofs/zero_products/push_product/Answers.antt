use Rattle.std.proofs.Common.{ap, ◌∙◌}
use Rattle.air_constraints.specs.Polynomials.{sum_at}
use Rattle.air_constraints.proofs.RecogniseLaws.{none_times}
use Rattle.air_constraints.proofs.zero_products.push_product.Goals as goal

pub returns : goal.returns
returns g c = λ w so is_zero known.
    let R = g.F.PrimeCharacteristicRing.ring in
    c.in_ok-push_zero_product.ensures w (ap (sum_at R w) c.as_slice.ensures.value ∙ c.in_ok-add_multiple.ensures w so
    ∙ none_times g.F.PrimeCharacteristicRing.lawful g.met.F.Domain.domain _ _ _ _ is_zero (ap (sum_at R w) c.new-product.ensures.items)) known
