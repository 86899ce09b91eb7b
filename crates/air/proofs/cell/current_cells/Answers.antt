use Rattle.std.proofs.Common.{arith, inl, inr, refl}
use Rattle.std.proofs.lemmas.List.Elements.{All-push}
use Rattle.std.proofs.lemmas.Result.{err_from_is_err_and}
use Rattle.air.proofs.CellLaws.{one_more_beside}
use Rattle.air.proofs.cell.current_cells.Goals as goal

pub loop-column-preserved : goal.loop-column-preserved
loop-column-preserved g c =
    let so_far = c.loop-column.invariant in
    let cell = c.in_ok-current_cell in
    rw c.in_ok-push.ensures.items (
      one_more_beside _ c.args.columns.now c.loop-column.tuple.items c.loop-column.column-index 0 _ cell.field-0 so_far.0 c.loop-column-test.true refl cell.ensures.cell,
      All-push (g.AB.Expr.Expression.within (g.AB.AirBuilder.layout c.args.builder.now)) c.loop-column.tuple.items cell.field-0 so_far.1 cell.ensures.within,
    )

pub bounds-columns-column-index : goal.bounds-columns-column-index
bounds-columns-column-index g c = omega arith

pub offset_bounds-columns-column-index : goal.offset_bounds-columns-column-index
offset_bounds-columns-column-index g c = omega arith

pub returns-in_err-tuple-clause-refused : goal.returns-in_err-tuple-clause-refused
returns-in_err-tuple-clause-refused g c =
    let p = err_from_is_err_and c.from_residual.result c.from_residual.ensures.1 in
    rw p.1 (inl p.2)

pub returns-in_err-current_cell-clause-refused : goal.returns-in_err-current_cell-clause-refused
returns-in_err-current_cell-clause-refused g c =
    let p = err_from_is_err_and c.from_residual-in_err-current_cell.result c.from_residual-in_err-current_cell.ensures.1 in
    rw (p.1, p.2) (inr c.in_err-current_cell.ensures.refused)

pub returns-in_err-push-clause-refused : goal.returns-in_err-push-clause-refused
returns-in_err-push-clause-refused g c =
    let p = err_from_is_err_and c.from_residual-in_err-push.result c.from_residual-in_err-push.ensures.1 in
    rw p.1 (inl p.2)

pub returns-in_err-tuple-clause-found : goal.returns-in_err-tuple-clause-found
returns-in_err-tuple-clause-found g c = λ all.
    let p = err_from_is_err_and c.from_residual.result c.from_residual.ensures.1 in
    rw p.1 (inl p.2)

pub returns-in_err-current_cell-clause-found : goal.returns-in_err-current_cell-clause-found
returns-in_err-current_cell-clause-found g c = λ all.
    let p = err_from_is_err_and c.from_residual-in_err-current_cell.result c.from_residual-in_err-current_cell.ensures.1 in
    rw (p.1, p.2) (inr (c.in_err-current_cell.ensures.found (all c.loop-column.column-index 0 c.loop-column-test.true)))

pub returns-in_err-push-clause-found : goal.returns-in_err-push-clause-found
returns-in_err-push-clause-found g c = λ all.
    let p = err_from_is_err_and c.from_residual-in_err-push.result c.from_residual-in_err-push.ensures.1 in
    rw p.1 (inl p.2)
