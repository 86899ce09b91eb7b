use Rattle.lookup_generation.proofs.JoinLaws.{ranges_join_of}
use Rattle.lookup_generation.proofs.theorems.ranges_join.Goals as goal

pub returns : goal.returns
returns g c = ranges_join_of g.met.EF.ExtensionField.lawful_fields
