use Rattle.std.proofs.Common.{refl}
use Rattle.air.proofs.debug.builder.DebugConstraintBuilderClone.clone.Goals as goal

pub returns : goal.returns
returns g c = record { cases = refl }
