use Rattle.std.proofs.Common.{ap}
use Rattle.field_goldilocks.specs.Quadratic.{coefficients_of}
use Rattle.field_goldilocks.proofs.goldilocks2.Goldilocks2.coefficients.Goals as goal

pub returns : goal.returns
returns c = ap coefficients_of c.self.view_is
