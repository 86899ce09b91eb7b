use Rattle.std.proofs.Common.{refl}
use Rattle.field.specs.Residue.{residue_same}
use Rattle.field_goldilocks.specs.laws.QuadraticField.{quadratic_same}
use Rattle.field_goldilocks.proofs.goldilocks2.Goldilocks2PrimeCharacteristicRing.ONE.Goals as goal

pub returns : goal.returns
returns c = quadratic_same _ _ (residue_same _ _ refl) (residue_same _ _ refl)
