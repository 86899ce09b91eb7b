use Rattle.std.proofs.Common.{ap, subst}
use Rattle.matrix.specs.Matrix.{IsShaped}
use Rattle.matrix.proofs.dense.RowMajorMatrix.width.Goals as goal

pub returns-clause-width : goal.returns-clause-width
returns-clause-width g c = ap (λ m. m.width) c.self.view_is

pub returns-clause-shaped : goal.returns-clause-shaped
returns-clause-shaped g c = subst IsShaped c.self.view_is c.self.invariant
