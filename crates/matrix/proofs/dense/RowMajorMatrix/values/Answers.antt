use Rattle.std.proofs.Common.{ap, subst, ◌∙◌}
use Rattle.matrix.specs.Matrix.{IsShaped}
use Rattle.matrix.proofs.dense.RowMajorMatrix.values.Goals as goal

pub returns-clause-values : goal.returns-clause-values
returns-clause-values g c = c.as_slice.ensures.value ∙ ap (λ m. m.values) c.self.view_is

pub returns-clause-shaped : goal.returns-clause-shaped
returns-clause-shaped g c = subst IsShaped c.self.view_is c.self.invariant
