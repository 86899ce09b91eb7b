use Rattle.std.proofs.Common.{◌∙◌, inl, inr}
use Rattle.c_calls.proofs.AnswerLaws.{refused_is}
use Rattle.c_calls.proofs.RowLaws.{rows_generated, rows_refused}
use Rattle.c_calls.proofs.generate_rows.generate_tables.Goals as goal

pub returns-in_err-air : goal.returns-in_err-air
returns-in_err-air g c = rw (refused_is c.from_residual.result c.from_residual.ensures.1) (inl c.in_err-air.ensures)

pub returns-in-Ok : goal.returns-in-Ok
returns-in-Ok g c =
    let read = c.in_ok-air.ensures in
    rows_generated g.K.MontyParameters.positive _ c.args.tables.now c.args.around.now c.args.rows.now _ _ _ _ c.in_ok-air.air.lookups.items _ read.a read.b _ _ _ c.in_ok-range.range read.is read.traces_are c.in_ok-range.ensures.1
    c.traces_as_one-traces.ensures
    c.deref.ensures.value (c.deref-2.ensures.value ∙ read.challenges_are.challenges_are) c.in_ok-range.ensures.0 c.in-Ok.made c.in-Ok.ensures

pub returns : goal.returns
returns g c =
    let read = c.in_ok-air.ensures in
    elim c.lookup_fault.ensures [
      | inl memory ↦ inr (inr (inl memory.1))
      | inr other ↦ inr (inr (inr (
        c.in-Err.error,
        other.1,
        rows_refused g.K.MontyParameters.positive _ c.args.tables.now c.args.around.now c.args.rows.now _ _ _ _ c.in_ok-air.air.lookups.items _ read.a read.b _ _ _ c.in_ok-range.range read.is read.traces_are c.in_ok-range.ensures.1
            c.traces_as_one-traces.ensures
            c.deref.ensures.value (c.deref-2.ensures.value ∙ read.challenges_are.challenges_are) c.in_ok-range.ensures.0 c.in-Err.error other.0 c.in-Err.ensures,
      )))
    ]
