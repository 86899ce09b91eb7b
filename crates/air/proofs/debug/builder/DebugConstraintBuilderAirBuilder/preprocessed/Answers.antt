use Rattle.std.proofs.Common.{refl}
use Rattle.air.proofs.Cells.{means_itself}
use Rattle.air.proofs.debug.builder.DebugConstraintBuilderAirBuilder.preprocessed.Goals as goal

pub returns-clause-current : goal.returns-clause-current
returns-clause-current g c = means_itself _ _ _ _ refl refl

pub returns-clause-next : goal.returns-clause-next
returns-clause-next g c = means_itself _ _ _ _ c.args.self.now.preprocessed.same_length refl
