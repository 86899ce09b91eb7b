use Rattle.batch_enforced.proofs.FlagLaws.{flags_of}
use Rattle.batch_enforced.proofs.flags.flags_are_enforced.Goals as goal

pub returns : goal.returns
returns g c = λ constraints instances all.
    flags_of g.F.PrimeCharacteristicRing.ring g.F.PartialEq.eq constraints instances all
