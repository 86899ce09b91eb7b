use Rattle.std.proofs.Common.{refl}
use Rattle.lookup_record.proofs.bus.PermutationCheckBus.new.Goals as goal

pub returns : goal.returns
returns c = refl
