use Rattle.checker_batches.proofs.SumSteps.{sums_blocked}
use Rattle.checker_batches.proofs.sums.Sums.plus.Goals as goal

pub returns-then-is_zero : goal.returns-then-is_zero
returns-then-is_zero g c = λ equations are. c.with_every_solution.ensures equations (record { numerator = c.args.numerator; denominator = c.args.denominator }) (c.is_zero.ensures.0 c.if-not-is_zero.false) (c.is_zero-else-not-is_zero.ensures.0 c.if-is_zero.true) are

pub returns-else-is_zero : goal.returns-else-is_zero
returns-else-is_zero g c = λ equations are.
    sums_blocked g.K.PrimeCharacteristicRing.lawful equations (record { numerator = c.args.numerator; denominator = c.args.denominator }) (c.is_zero.ensures.0 c.if-not-is_zero.false) (λ e. cc (c.if-is_zero.false, c.is_zero-else-not-is_zero.ensures.1 e))
