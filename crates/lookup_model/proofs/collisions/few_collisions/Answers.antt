use Rattle.lookup_model.proofs.CollisionLaws.{few_combine_alike, few_share_a_point, leading_zero}
use Rattle.lookup_model.proofs.collisions.few_collisions.Goals as goal

pub returns-clause-leading_zero : goal.returns-clause-leading_zero
returns-clause-leading_zero g c = leading_zero g.EF.PrimeCharacteristicRing.lawful g.met.EF.Domain.domain

pub returns-clause-few_combine_alike : goal.returns-clause-few_combine_alike
returns-clause-few_combine_alike g c = few_combine_alike g.EF.PrimeCharacteristicRing.lawful g.met.EF.Domain.domain

pub returns-clause-few_share_a_point : goal.returns-clause-few_share_a_point
returns-clause-few_share_a_point g c = λ W m few.
    few_share_a_point g.EF.PrimeCharacteristicRing.lawful g.met.EF.Domain.domain W m g.EF.PrimeCharacteristicRing.CHARACTERISTIC few g.met.EF.PrimeCharacteristicRing.characteristic
