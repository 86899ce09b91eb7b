use Rattle.std.proofs.Common.{arith, inl, inr, sym, ◌∙◌}
use Rattle.std.proofs.lemmas.Result.{err_from_is_err_and}
use Rattle.air.proofs.CellLaws.{cell_is, narrow_row, no_cell}
use Rattle.air.proofs.cell.next_cell.Goals as goal

pub next-requires : goal.next-requires
next-requires g c = c.in_ok-main.ensures.readable

pub next_slice-requires : goal.next_slice-requires
next_slice-requires g c = c.in_ok-main.ensures.readable

pub returns-in_err-main-clause-refused : goal.returns-in_err-main-clause-refused
returns-in_err-main-clause-refused g c =
    let p = err_from_is_err_and c.from_residual.result c.from_residual.ensures.1 in
    rw (p.1, p.2) (inl c.in_err-main.ensures.refused)

pub returns-in-Some-clause-cell : goal.returns-in-Some-clause-cell
returns-in-Some-clause-cell g c =
    cell_is _ _ _ _ _ c.args.column c.in-Some.variable c.into.result (λ x w. g.AB.Expr.Expression.value x (g.AB.AirBuilder.seen w)) c.in_ok-main.ensures.next (sym c.next.ensures ∙ c.in-Some.is) (λ w. g.met.AB.AirBuilder.variable_converts _ _ w c.into.ensures)

pub returns-in-Some-clause-degree : goal.returns-in-Some-clause-degree
returns-in-Some-clause-degree g c t = g.met.AB.AirBuilder.variable_degree _ _ t c.into.ensures

pub returns-in-Some-clause-within : goal.returns-in-Some-clause-within
returns-in-Some-clause-within g c =
    c.in_ok-main.ensures.next_within _ _ _ (sym c.next.ensures ∙ c.in-Some.is) c.into.ensures

pub returns-clause-refused : goal.returns-clause-refused
returns-clause-refused g c =
    inr (narrow_row _ _ _ _ _ c.args.column c.args.width c.next_slice.result.now _ c.in_ok-main.ensures.next (sym c.next.ensures ∙ c.in-None.is) c.requires c.next_slice.ensures c.narrow.ensures)

pub returns-in_err-main-clause-found : goal.returns-in_err-main-clause-found
returns-in_err-main-clause-found g c = λ below.
    let p = err_from_is_err_and c.from_residual.result c.from_residual.ensures.1 in
    rw (p.1, p.2) c.in_err-main.ensures.refused

pub returns-clause-found : goal.returns-clause-found
returns-clause-found g c = λ below.
    absurd (omega (arith, below, no_cell _ _ _ _ _ c.args.column c.in_ok-main.ensures.next (sym c.next.ensures ∙ c.in-None.is)))
