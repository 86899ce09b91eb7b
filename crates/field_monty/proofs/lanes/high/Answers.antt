use Rattle.field_monty.proofs.LaneCases.{shifted_fit}
use Rattle.field_monty.proofs.lanes.high.Goals as goal

pub overflow_cast-even : goal.overflow_cast-even
overflow_cast-even c = shifted_fit c.args.even c.fits-even.0 c.fits-even.1

pub overflow_cast-odd : goal.overflow_cast-odd
overflow_cast-odd c = shifted_fit c.args.odd c.fits-odd.0 c.fits-odd.1
