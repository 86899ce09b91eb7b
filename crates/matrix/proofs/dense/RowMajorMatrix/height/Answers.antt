use Rattle.std.proofs.Common.{subst, arith}
use Rattle.matrix.specs.Matrix.{IsShaped}
use Rattle.matrix.proofs.dense.RowMajorMatrix.height.Goals as goal

pub nonzero_div-result : goal.nonzero_div-result
nonzero_div-result g c = omega (arith, c.if-self-eq0.false)

pub returns-then-self-eq0-clause-shaped : goal.returns-then-self-eq0-clause-shaped
returns-then-self-eq0-clause-shaped g c = subst IsShaped c.self.view_is c.self.invariant

pub returns-else-self-eq0-clause-shaped : goal.returns-else-self-eq0-clause-shaped
returns-else-self-eq0-clause-shaped g c = subst IsShaped c.self.view_is c.self.invariant
