use Rattle.c_calls.proofs.JoinedLaws.{rows_join_of}
use Rattle.c_calls.proofs.theorems.rows_join.Goals as goal

pub returns : goal.returns
returns g c = rows_join_of g.K.MontyParameters.positive _ c.ranges_join.ensures
