use Rattle.lookup.proofs.DegreeLaws.{kept_of_lookup}
use Rattle.lookup.proofs.packing.degrees.GadgetDegreesTrialDegrees.keep.Goals as goal

pub returns : goal.returns
returns g c = rw c.ok.ensures.value (kept_of_lookup c.args.lookup.now c.requires c.of_lookup.result c.of_lookup.ensures)
