use Rattle.std.proofs.Common.{inl, inr, refl}
use Rattle.c_calls.proofs.AnswerLaws.{refused_is}
use Rattle.c_calls.proofs.generate_rows.answer_generate_rows.Goals as goal

pub returns-in_err-made-clause-answers : goal.returns-in_err-made-clause-answers
returns-in_err-made-clause-answers g c = rw (refused_is c.from_residual.result c.from_residual.ensures.1) (inl c.in_err-made.ensures)

pub returns-in_err-made-clause-kept : goal.returns-in_err-made-clause-kept
returns-in_err-made-clause-kept g c = rw (refused_is c.from_residual.result c.from_residual.ensures.1) (refl, refl)

pub returns-in_err-write_cells-clause-answers : goal.returns-in_err-write_cells-clause-answers
returns-in_err-write_cells-clause-answers g c =
    rw (refused_is c.from_residual-in_err-write_cells.result c.from_residual-in_err-write_cells.ensures.1)
    (inr (c.in_ok-made.made, c.in_ok-made.total, c.in_ok-made.ensures, c.in_err-write_cells.ensures.answers))

pub returns-in_err-write_cells-clause-kept : goal.returns-in_err-write_cells-clause-kept
returns-in_err-write_cells-clause-kept g c = rw (refused_is c.from_residual-in_err-write_cells.result c.from_residual-in_err-write_cells.ensures.1) (c.in_err-write_cells.ensures.kept, refl)

pub returns-clause-answers : goal.returns-clause-answers
returns-clause-answers g c = record {
  auxiliary = c.in_ok-made.made;
  sum = c.in_ok-made.total;
  generates = c.in_ok-made.ensures;
  cells_are = c.in_ok-write_cells.ensures.answers;
  total_is = c.element_numbers.ensures;
}
