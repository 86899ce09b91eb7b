use Rattle.example_machines.proofs.ExtractedLaws.{air_lookups}
use Rattle.example_machines.proofs.traces.machine_air_lookups.Goals as goal

pub returns : goal.returns
returns g c =
    air_lookups _ _ g.F.PrimeCharacteristicRing.ring g.F.PartialEq.eq c.args.air c.from_air.result c.from_air.ensures.extracts c.from_air.ensures.within
