use Rattle.c_calls.proofs.AnswerLaws.{refused_is}
use Rattle.c_calls.proofs.ConstraintLaws.{show_refused}
use Rattle.c_calls.proofs.enforced.show_into_room.Goals as goal

pub returns-in_err-made : goal.returns-in_err-made
returns-in_err-made g c =
    rw (refused_is c.from_residual.result c.from_residual.ensures.1) (show_refused _ _ c.args.tables.now c.args.constraints.now c.args.height c.args.queries.now c.args.room.0 c.args.room.1 _ c.in_err-made.ensures)
