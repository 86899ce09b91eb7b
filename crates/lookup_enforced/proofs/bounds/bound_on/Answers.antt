use Rattle.std.proofs.Common.{ap, ◌∙◌}
use Rattle.air_constraints.specs.Polynomials.{sum_at}
use Rattle.lookup_model.specs.Sent.{value}
use Rattle.lookup_enforced.specs.internal.Shown.{KnownRows}
use Rattle.lookup_enforced.proofs.RowLaws.{bound_known}
use Rattle.lookup_enforced.proofs.bounds.bound_on.Goals as goal

pub returns-in_ok-bound_of-in-Ok : goal.returns-in_ok-bound_of-in-Ok
returns-in_ok-bound_of-in-Ok g c =
    let R = g.F.PrimeCharacteristicRing.ring in
    bound_known R (KnownRows R c.args.kind c.args.facts.now) (λ w. sum_at R w c.as_slice.result.now) (λ w. value R w c.args.multiplicity.now) c.in_ok-bound_of-in-Ok.field-0
    (λ w known. ap (sum_at R w) c.as_slice.ensures.value ∙ c.in-Ok.ensures w known.0 known.1) (λ w known. c.in_ok-bound_of-in-Ok.ensures w known.1)
