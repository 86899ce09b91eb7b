use Rattle.std.proofs.Common.{inl, inr}
use Rattle.c_calls.proofs.AnswerLaws.{refused_is}
use Rattle.c_calls.proofs.prove.prove_into_room.Goals as goal

pub returns-in_err-witness : goal.returns-in_err-witness
returns-in_err-witness g c = rw (refused_is c.from_residual.result c.from_residual.ensures.1) (inl c.in_err-witness.ensures)

pub returns-in_err-check_room : goal.returns-in_err-check_room
returns-in_err-check_room g c = rw (refused_is c.from_residual-in_err-check_room.result c.from_residual-in_err-check_room.ensures.1) (inr (c.in_ok-witness.witness, c.in_ok-witness.ensures, c.in_err-check_room.ensures))
