use Rattle.std.proofs.Common.{refl}
use Rattle.field_monty.specs.laws.Quartic.{quartic_same}
use Rattle.field_monty.proofs.monty_quartic.MontyQuartic.constant.Goals as goal

pub returns : goal.returns
returns g c = quartic_same _ _ refl c.ZERO.ensures c.ZERO-2.ensures c.ZERO-3.ensures
