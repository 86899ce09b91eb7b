use Rattle.std.proofs.Common.{inl, inr}
use Rattle.c_calls.proofs.AnswerLaws.{refused_is}
use Rattle.c_calls.proofs.written_tables.tables_for.Goals as goal

pub returns-in_err-made : goal.returns-in_err-made
returns-in_err-made g c = rw (refused_is c.from_residual.result c.from_residual.ensures.1) (inl c.in_err-made.ensures)

pub returns-in_err-check_table_room : goal.returns-in_err-check_table_room
returns-in_err-check_table_room g c = rw (refused_is c.from_residual-in_err-check_table_room.result c.from_residual-in_err-check_table_room.ensures.1) (inr (c.in_ok-made.made, c.in_ok-made.ensures, c.in_err-check_table_room.ensures))
