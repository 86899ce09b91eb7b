use Rattle.example_machines.proofs.PackedAir.{packed_air}
use Rattle.example_machines.proofs.traces.lookups_for.Goals as goal

pub returns : goal.returns
returns g c =
    packed_air g.F.PrimeCharacteristicRing.ring g.F.PartialEq.eq c.args.air _ _ c.pack_same_bus.result c.in_ok-lookups.ensures c.pack_same_bus.ensures.packs c.pack_same_bus.ensures.fits
