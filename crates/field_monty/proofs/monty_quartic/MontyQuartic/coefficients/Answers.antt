use Rattle.std.proofs.Common.{ap}
use Rattle.field_monty.specs.Quartic.{coefficients_of}
use Rattle.field_monty.proofs.monty_quartic.MontyQuartic.coefficients.Goals as goal

pub returns : goal.returns
returns g c = ap coefficients_of c.self.view_is
