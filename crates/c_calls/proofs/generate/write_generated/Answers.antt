use Rattle.std.proofs.Common.{refl}
use Rattle.c_calls.proofs.AnswerLaws.{refused_is}
use Rattle.c_calls.proofs.generate.write_generated.Goals as goal

pub returns-in_err-write_cells-clause-answers : goal.returns-in_err-write_cells-clause-answers
returns-in_err-write_cells-clause-answers g c = rw (refused_is c.from_residual.result c.from_residual.ensures.1) c.in_err-write_cells.ensures.answers

pub returns-in_err-write_cells-clause-kept : goal.returns-in_err-write_cells-clause-kept
returns-in_err-write_cells-clause-kept g c = rw (refused_is c.from_residual.result c.from_residual.ensures.1) (c.in_err-write_cells.ensures.kept, refl)

pub returns-clause-answers : goal.returns-clause-answers
returns-clause-answers g c = record { cells_are = c.in_ok-write_cells.ensures.answers; ending_is = c.terminal_numbers.ensures }
