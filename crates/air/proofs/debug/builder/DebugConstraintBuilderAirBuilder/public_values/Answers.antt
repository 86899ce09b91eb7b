use Rattle.std.proofs.Common.{refl}
use Rattle.air.proofs.Cells.{means_itself}
use Rattle.air.proofs.debug.builder.DebugConstraintBuilderAirBuilder.public_values.Goals as goal

pub returns-clause-means : goal.returns-clause-means
returns-clause-means g c = means_itself _ _ _ _ refl refl
