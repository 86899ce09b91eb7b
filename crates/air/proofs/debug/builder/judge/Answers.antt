use Rattle.std.proofs.Common.{refl}
use Rattle.air.proofs.debug.builder.judge.Goals as goal

pub returns-then-is_zero : goal.returns-then-is_zero
returns-then-is_zero g c = c.is_zero.ensures.0 c.if-is_zero.true

pub returns-else-is_zero : goal.returns-else-is_zero
returns-else-is_zero g c = (λ zero. cc (c.is_zero.ensures.1 zero), refl)
