use Rattle.std.proofs.Common.{ap}
use Rattle.matrix.proofs.dense.RowMajorMatrix.into_values.Goals as goal

pub returns : goal.returns
returns g c = ap (λ m. m.values) c.self.view_is
