use Rattle.std.proofs.Common.{refl}
use Rattle.lookup_record.proofs.count.Count.bounded.Goals as goal

pub returns : goal.returns
returns g c = refl
