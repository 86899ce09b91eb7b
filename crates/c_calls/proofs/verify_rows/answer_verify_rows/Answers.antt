use Rattle.std.proofs.Common.{◌∙◌, ap, arith, inl, inr, length, refl, subst}
use Rattle.c_calls.specs.Rows.{HasCallRowsAround}
use Rattle.c_calls.specs.VerifyRows.{instance_with_ids}
use Rattle.c_calls.proofs.AnswerLaws.{refused_is}
use Rattle.c_calls.proofs.RowChecks.{read_has_columns, row_fails, rows_hold, shape_refused}
use Rattle.c_calls.proofs.verify_rows.answer_verify_rows.Goals as goal

pub returns-in_err-air : goal.returns-in_err-air
returns-in_err-air g c = rw (refused_is c.from_residual.result c.from_residual.ensures.1) (inl c.in_err-air.ensures)

pub returns-in_err-aux : goal.returns-in_err-aux
returns-in_err-aux g c = rw (refused_is c.from_residual-in_err-aux.result c.from_residual-in_err-aux.ensures.1) (inr (inr (inl c.in_err-aux.ensures)))

pub returns-in_err-terminal : goal.returns-in_err-terminal
returns-in_err-terminal g c = rw (refused_is c.from_residual-in_err-terminal.result c.from_residual-in_err-terminal.ensures.1) (inr (inr (inr (inl c.in_err-terminal.ensures))))

pub returns-in-Err : goal.returns-in-Err
returns-in-Err g c =
    let read = c.in_ok-air.ensures in
    inr (inr (inr (inr (inr (inl (
      c.in-Err.error,
      refl,
      shape_refused g.K.MontyParameters.positive _ c.args.tables.now c.args.around.now c.args.rows.now _ _ _ _ c.args.witness.now c.in_ok-air.air.lookups.items read.a read.b _ read.is
          (subst (HasCallRowsAround c.args.rows.now) read.traces_are c.in_ok-range.ensures.1)
          (c.instance_of-instance.ensures ∙ ap (instance_with_ids c.in_ok-air.air.lookups.items c.args.plan.now.ids.now) read.traces_are)
          c.in_ok-aux.aux c.in_ok-terminal.terminal (record { whole = c.in_ok-aux.ensures.1; cells = c.in_ok-aux.ensures.2; terminal = c.in_ok-terminal.ensures.1 }) c.in_ok-aux.ensures.0 c.in_ok-terminal.ensures.0 c.in-Err.error c.in-Err.ensures,
    ))))))

pub rows_hold_around-requires-clause-columns : goal.rows_hold_around-requires-clause-columns
rows_hold_around-requires-clause-columns g c =
    let read = c.in_ok-air.ensures in
    read_has_columns g.K.MontyParameters.positive c.args.tables.now c.args.around.now _ _ _ _ c.in_ok-air.air.lookups.items read.a read.b _ _ read.is
    (c.instance_of-instance.ensures ∙ ap (instance_with_ids c.in_ok-air.air.lookups.items c.args.plan.now.ids.now) read.traces_are)
    (ap length c.deref.ensures.value ∙ read.challenges_are.many)

pub returns-then-row-range : goal.returns-then-row-range
returns-then-row-range g c =
    let read = c.in_ok-air.ensures in
    inr (inr (inr (inr (inr (inr (
      c.in_ok-row.row,
      refl,
      omega (arith, c.if-row-range.true, ap (λ r. r.end) c.in_ok-range.ensures.0),
      row_fails g.K.MontyParameters.positive _ c.args.tables.now c.args.around.now c.args.rows.now _ _ _ _ c.args.witness.now c.in_ok-air.air.lookups.items read.a read.b _ read.is
          (subst (HasCallRowsAround c.args.rows.now) read.traces_are c.in_ok-range.ensures.1)
          (c.instance_of-instance.ensures ∙ ap (instance_with_ids c.in_ok-air.air.lookups.items c.args.plan.now.ids.now) read.traces_are)
          c.in_ok-aux.aux c.in_ok-terminal.terminal (record { whole = c.in_ok-aux.ensures.1; cells = c.in_ok-aux.ensures.2; terminal = c.in_ok-terminal.ensures.1 }) c.in_ok-aux.ensures.0 c.in_ok-terminal.ensures.0 _ c.in_ok-range.range (c.deref.ensures.value ∙ read.challenges_are.challenges_are) c.in_ok-range.ensures.0 c.in_default.ensures c.in_ok-row.row c.in_ok-row.ensures.holds,
    ))))))

pub returns : goal.returns
returns g c =
    let read = c.in_ok-air.ensures in
    rows_hold g.K.MontyParameters.positive _ c.args.tables.now c.args.around.now c.args.rows.now _ _ _ _ c.args.witness.now c.in_ok-air.air.lookups.items read.a read.b _ read.is
    (subst (HasCallRowsAround c.args.rows.now) read.traces_are c.in_ok-range.ensures.1)
    (c.instance_of-instance.ensures ∙ ap (instance_with_ids c.in_ok-air.air.lookups.items c.args.plan.now.ids.now) read.traces_are)
    c.in_ok-aux.aux c.in_ok-terminal.terminal (record { whole = c.in_ok-aux.ensures.1; cells = c.in_ok-aux.ensures.2; terminal = c.in_ok-terminal.ensures.1 }) c.in_ok-aux.ensures.0 c.in_ok-terminal.ensures.0 _ c.in_ok-range.range (c.deref.ensures.value ∙ read.challenges_are.challenges_are) c.in_ok-range.ensures.0 c.in_default.ensures c.in_ok-row.row c.in_ok-row.ensures.holds
    c.in_ok-row.ensures.adds
    (omega (arith, c.if-row-range.false, ap (λ r. r.end) c.in_ok-range.ensures.0))
