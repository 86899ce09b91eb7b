use Rattle.std.proofs.Common.{◌≡◌, ◌<◌, ℕ, inl, inr, slice_index_or, subst, sym, ◌∙◌, take, Some, List, arith}
use Rattle.std.proofs.lemmas.List.{take_all}
use Rattle.std.proofs.lemmas.Result.{err_from_is_err_and}
use Rattle.std.specs.List.{slice_get}
use Rattle.air_expressions.specs.Window.{Window}
use Rattle.air.specs.Traces.{height_of, traces_of, window_of}
use Rattle.lookup_model.specs.FlagFault.{row_flag_faults}
use Rattle.lookup_model.specs.Sent.{Sent}
use Rattle.lookup_model.specs.Trace.{sent_row_under, sent_rows_under}
use Rattle.lookup_model.specs.declared.types.Lookup.{Lookup}
use Rattle.lookup_messages.specs.SentMessages.{HasSentRow, HasSentRows}
use Rattle.lookup_messages.proofs.SentMessageLaws.{first_row_fault, further_back, length-all_rows, length-take-rows, one_more_row, rows_more}
use Rattle.lookup_messages.proofs.messages.push_rows.Goals as goal

pub returns-in_err-push_row_messages-clause-pushes : goal.returns-in_err-push_row_messages-clause-pushes
returns-in_err-push_row_messages-clause-pushes g c =
    let R = g.F.PrimeCharacteristicRing.ring in
    let eq = g.F.PartialEq.eq in
    let traces = traces_of c.args.traces.now in
    let id : Lookup g.row.F.Denot → ℕ = λ l. slice_index_or c.args.ids.now l.column 0 in
    let built = c.row_builder-builder.ensures in
    let r = c.loop-row.row in
    let lt : r < height_of traces = omega (arith, c.loop-row-test.true, c.height-height.ensures.height) in
    let p = err_from_is_err_and c.from_residual.result c.from_residual.ensures.1 in
    rw (p.1, p.2) (elim c.in_err-push_row_messages.ensures.pushes [
      | inl memory ↦ inl memory
      | inr fault ↦
          let here : slice_get (row_flag_faults R eq r (sent_row_under R eq id (window_of traces r) c.args.lookups.now)) 0 ≡ Some _ =
          (λ i. slice_get (row_flag_faults R eq (sym built.row i) (sent_row_under R eq id (sym built.window i) c.args.lookups.now)) 0) ∙ fault in
          inr (first_row_fault R eq id traces c.args.lookups.now r lt _ c.loop-row.invariant.0.faultless here)
    ])

pub loop-row-preserved : goal.loop-row-preserved
loop-row-preserved g c =
    let R = g.F.PrimeCharacteristicRing.ring in
    let eq = g.F.PartialEq.eq in
    let traces = traces_of c.args.traces.now in
    let id : Lookup g.row.F.Denot → ℕ = λ l. slice_index_or c.args.ids.now l.column 0 in
    let b = c.row_builder-builder.result in
    let built = c.row_builder-builder.ensures in
    let r = c.loop-row.row in
    let before = c.loop-row.messages.items in
    let after = c.push_row_messages.new.messages.items in
    let lt : r < height_of traces = omega (arith, c.loop-row-test.true, c.height-height.ensures.height) in
    let w = window_of traces r in
    let has = λ (k : ℕ) (v : Window _). HasSentRow R eq k before after (sent_row_under R eq id v c.args.lookups.now) in
    let this : has r w =
    subst (λ (k : ℕ). has k w) built.row (subst (λ (v : Window _). has b.row v) built.window c.in_ok-push_row_messages.ensures.pushes) in
    let rows = sent_rows_under R eq id traces c.args.lookups.now in (
      subst (λ (rs : List (List (Sent _))). HasSentRows R eq c.args.messages.now.items after rs) (sym (one_more_row R eq id traces c.args.lookups.now r lt))
          (rows_more R eq r c.args.messages.now.items before after (take r rows) (sent_row_under R eq id w c.args.lookups.now)
          (length-take-rows R eq id traces c.args.lookups.now r lt) this c.loop-row.invariant.0),
      further_back _ _ _ c.loop-row.invariant.1 c.in_ok-push_row_messages.ensures.front,
    )

pub returns-clause-pushes : goal.returns-clause-pushes
returns-clause-pushes g c =
    let R = g.F.PrimeCharacteristicRing.ring in
    let eq = g.F.PartialEq.eq in
    let traces = traces_of c.args.traces.now in
    let id : Lookup g.row.F.Denot → ℕ = λ l. slice_index_or c.args.ids.now l.column 0 in
    let rows = sent_rows_under R eq id traces c.args.lookups.now in
    subst (λ (rs : List (List (Sent _))). HasSentRows R eq c.args.messages.now.items c.loop-row.messages.items rs)
    (take_all c.loop-row.row rows (omega (arith, length-all_rows R eq id traces c.args.lookups.now, c.loop-row-test.false, c.height-height.ensures.height))) c.loop-row.invariant.0

pub returns-in_err-push_row_messages-clause-front : goal.returns-in_err-push_row_messages-clause-front
returns-in_err-push_row_messages-clause-front g c = further_back _ _ _ c.loop-row.invariant.1 c.in_err-push_row_messages.ensures.front
