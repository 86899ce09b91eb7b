use Rattle.std.proofs.Common.{refl}
use Rattle.lookup.proofs.StepLaws.{filled_one}
use Rattle.lookup.proofs.packing.filling.open_bus.Goals as goal

pub returns-clause-filled : goal.returns-clause-filled
returns-clause-filled g c = λ max_degree. filled_one (g.T.TrialDegrees.keeps c.args.degrees.now) (g.T.TrialDegrees.answers c.args.degrees.now) max_degree _ c.new.ensures.items refl c.requires c.keep-kept.ensures
