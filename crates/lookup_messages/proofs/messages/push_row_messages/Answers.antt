use Rattle.std.proofs.Common.{◌≡◌, ◌<◌, ◌+◌, inl, inr, refl, length, slice_index_or, subst, sym, ap, ◌∙◌, take, drop, List, arith}
use Rattle.std.proofs.lemmas.List.{length-map, length-take}
use Rattle.std.proofs.lemmas.Result.{err_from_is_err_and}
use Rattle.std.specs.List.{slice_get}
use Rattle.list_laws.proofs.Images.{mapped_at, mapped_more}
use Rattle.list_laws.proofs.Each.{All-at}
use Rattle.list_laws.proofs.Items.{split_at}
use Rattle.lookup_model.specs.FlagFault.{row_flag_faults, sent_flag_fault}
use Rattle.lookup_model.specs.Sent.{Sent, sent_at}
use Rattle.lookup_model.specs.Trace.{sent_row_under}
use Rattle.lookup_model.specs.declared.types.Lookup.{Lookup}
use Rattle.lookup_model.proofs.Lookups.Rows.{row_faults-first}
use Rattle.lookup_model.proofs.Lookups.SentRows.{column_is, equal_lengths}
use Rattle.lookup_messages.specs.SentMessages.{HasSentRow}
use Rattle.lookup_messages.specs.TraceBuilder.{builder_layout, builder_window}
use Rattle.lookup_messages.proofs.SentMessageLaws.{further_back, in_front, no_sent, sent_more}
use Rattle.lookup_model.specs.Records.{IsWithin}
use Rattle.lookup_messages.proofs.messages.push_row_messages.Goals as goal

pub loop-lookup-init : goal.loop-lookup-init
loop-lookup-init g c =
    let R = g.F.PrimeCharacteristicRing.ring in
    let eq = g.F.PartialEq.eq in
    (no_sent R eq c.args.builder.now.row c.args.messages.now.items, in_front _ _ refl)

pub offset_bounds-ids-lookup : goal.offset_bounds-ids-lookup
offset_bounds-ids-lookup g c =
    let column = column_is c.args.lookups.now c.loop-lookup.lookup-index c.lookup-item.result c.requires.fit.records c.loop-lookup-test.true c.lookup-item.is in
    omega (arith, column, c.requires.ids, c.loop-lookup-test.true)

pub bounds-ids-lookup : goal.bounds-ids-lookup
bounds-ids-lookup g c =
    let column = column_is c.args.lookups.now c.loop-lookup.lookup-index c.lookup-item.result c.requires.fit.records c.loop-lookup-test.true c.lookup-item.is in
    omega (arith, column, c.requires.ids, c.loop-lookup-test.true)

pub loop-lookup-preserved : goal.loop-lookup-preserved
loop-lookup-preserved g c =
    let R = g.F.PrimeCharacteristicRing.ring in
    let eq = g.F.PartialEq.eq in
    let w = builder_window c.args.builder.now in
    let lookups = c.args.lookups.now in
    let lookup = c.lookup-item.result in
    let i = c.loop-lookup.lookup-index in
    let f = λ (l : Lookup _). sent_at R eq w (slice_index_or c.args.ids.now l.column 0) l in
    let lt : i < length lookups = c.loop-lookup-test.true in
    let row = sent_row_under R eq (λ l. slice_index_or c.args.ids.now l.column 0) w lookups in
    let column : lookup.column ≡ i = column_is lookups i lookup c.requires.fit.records lt c.lookup-item.is in (
      subst (λ (sents : List (Sent _)). HasSentRow R eq c.args.builder.now.row c.args.messages.now.items c.push_sent.new.messages.items sents) (sym (mapped_more f lookups i lookup lt c.lookup-item.is))
          (sent_more R eq c.args.builder.now.row lookup.column c.args.messages.now.items c.loop-lookup.messages.items c.push_sent.new.messages.items (take i row) (f lookup)
          (omega (arith, column, length-take i row, length-map lookups f, lt)) c.in_ok-push_sent.ensures.pushes.0 c.in_ok-push_sent.ensures.pushes.1 c.loop-lookup.invariant.0),
      further_back _ _ _ c.loop-lookup.invariant.1 c.in_ok-push_sent.ensures.front,
    )

pub returns-in_err-push_sent-clause-pushes : goal.returns-in_err-push_sent-clause-pushes
returns-in_err-push_sent-clause-pushes g c =
    let R = g.F.PrimeCharacteristicRing.ring in
    let eq = g.F.PartialEq.eq in
    let w = builder_window c.args.builder.now in
    let lookups = c.args.lookups.now in
    let lookup = c.lookup-item.result in
    let i = c.loop-lookup.lookup-index in
    let f = λ (l : Lookup _). sent_at R eq w (slice_index_or c.args.ids.now l.column 0) l in
    let lt : i < length lookups = c.loop-lookup-test.true in
    let row = sent_row_under R eq (λ l. slice_index_or c.args.ids.now l.column 0) w lookups in
    let column : lookup.column ≡ i = column_is lookups i lookup c.requires.fit.records lt c.lookup-item.is in
    let at : length (take i row) ≡ lookup.column = omega (arith, column, length-take i row, length-map lookups f, lt) in
    let split = split_at row i (f lookup) (omega (arith, length-map lookups f, lt)) (mapped_at f lookups i lookup lt c.lookup-item.is) in
    let p = err_from_is_err_and c.from_residual.result c.from_residual.ensures.1 in
    rw (p.1, p.2) (elim c.in_err-push_sent.ensures.pushes [
      | inl memory ↦ inl memory
      | inr fault ↦ inr (ap (λ t. slice_get (row_flag_faults R eq c.args.builder.now.row t) 0) split ∙ row_faults-first (sent_flag_fault R eq) c.args.builder.now.row lookup.column (take i row) (drop (i + 1) row) (f lookup) _ at fault c.loop-lookup.invariant.0.faultless)
    ])

pub push_sent-requires-clause-lengths : goal.push_sent-requires-clause-lengths
push_sent-requires-clause-lengths g c = equal_lengths c.args.lookups.now c.loop-lookup.lookup-index c.lookup-item.result c.requires.fit.records c.loop-lookup-test.true c.lookup-item.is

pub push_sent-requires-clause-within : goal.push_sent-requires-clause-within
push_sent-requires-clause-within g c = All-at (IsWithin (builder_layout c.args.builder.now)) c.args.lookups.now c.loop-lookup.lookup-index c.lookup-item.result c.requires.fit.within c.loop-lookup-test.true c.lookup-item.is

pub returns-in_err-push_sent-clause-front : goal.returns-in_err-push_sent-clause-front
returns-in_err-push_sent-clause-front g c = further_back _ _ _ c.loop-lookup.invariant.1 c.in_err-push_sent.ensures.front
