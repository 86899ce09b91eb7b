use Rattle.std.specs.Prelude.{◌+◌, ◌*◌}
use Rattle.air_expressions.proofs.reading.+reader.Given as goal

abbrev pub decreases-read_expression : goal.decreases-read_expression
decreases-read_expression g l = 3 * l.depth

abbrev pub decreases-read_boxed : goal.decreases-read_boxed
decreases-read_boxed g l = 3 * l.depth + 1

abbrev pub decreases-read_two : goal.decreases-read_two
decreases-read_two g l = 3 * l.depth + 2
