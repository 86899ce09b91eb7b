use Rattle.std.proofs.Common.{rules, ◌<◌, map}
use Rattle.lookup.specs.Guards.{weighted_height_sum}
use Rattle.lookup.specs.Lookups.{lookups_of}
use Rattle.lookup.proofs.Heights.{height_laws}
use Rattle.lookup.proofs.guards.check_multiplicity_height_bound.Goals as goal

pub returns-then-sum-CHARACTERISTIC-clause-law : goal.returns-then-sum-CHARACTERISTIC-clause-law
returns-then-sum-CHARACTERISTIC-clause-law g c =
    let p = g.F.PrimeCharacteristicRing.CHARACTERISTIC in
    let light : weighted_height_sum (map lookups_of c.args.airs.now) c.args.heights.now < p = search rules in
    height_laws g.F.PrimeCharacteristicRing.lawful g.F.PartialEq.eq g.met.F.PrimeCharacteristicRing.eq_is p g.met.F.PrimeCharacteristicRing.characteristic (map lookups_of c.args.airs.now) c.args.heights.now light
