use Rattle.lookup.proofs.Heights.{height_laws}
use Rattle.lookup.proofs.guards.height_law.Goals as goal

pub returns : goal.returns
returns g c = λ airs heights light.
    height_laws g.F.PrimeCharacteristicRing.lawful g.F.PartialEq.eq g.met.F.PrimeCharacteristicRing.eq_is g.F.PrimeCharacteristicRing.CHARACTERISTIC g.met.F.PrimeCharacteristicRing.characteristic airs heights light
