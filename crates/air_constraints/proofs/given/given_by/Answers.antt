use Rattle.std.proofs.Common.{sym, ◌∙◌}
use Rattle.air_constraints.proofs.RecogniseLaws.{plus_none}
use Rattle.air_constraints.proofs.given.given_by.Goals as goal

pub returns : goal.returns
returns g c = λ w so is_zero.
    sym (c.in_ok-add_multiple.ensures w so ∙ plus_none g.F.PrimeCharacteristicRing.lawful g.met.F.Domain.domain _ _ _ _ is_zero ∙ c.in_ok-others.ensures w)
