use Rattle.std.proofs.Common.{◌≡◌, ◌∙◌, ap, arith, inl, inr, length, sym}
use Rattle.std.proofs.lemmas.List.{length-map}
use Rattle.std.proofs.lemmas.Slice.Zip.{AllZip-long}
use Rattle.std.specs.List.{flat_map}
use Rattle.lookup.specs.Lookups.{lookups_of}
use Rattle.c_calls.specs.Enforced.{bound_list, is_query}
use Rattle.c_calls.proofs.AnswerLaws.{refused_is}
use Rattle.c_calls.proofs.ConstraintLaws.{ranges_of_records, records_are, shows_tables}
use Rattle.c_calls.proofs.enforced.show_tables.Goals as goal

pub returns-in_err-set : goal.returns-in_err-set
returns-in_err-set g c = rw (refused_is c.from_residual.result c.from_residual.ensures.1) (inr (inl c.in_err-set.ensures))

pub answers_of-requires-clause-records : goal.answers_of-requires-clause-records
answers_of-requires-clause-records g c =
    records_are c.args.tables.now (lookups_of c.in_ok-set.set) c.in_ok-set.ensures.are ∙ ap length (sym c.as_slice-2.ensures.lookups)

pub answers_of-requires-clause-shown : goal.answers_of-requires-clause-shown
answers_of-requires-clause-shown g c =
    ap length c.deref-3.ensures.value
    ∙ (AllZip-long _ c.as_slice.result.now c.in_ok-shown.shown.items c.in_ok-shown.ensures ∙ ap length (c.as_slice.ensures.lookups ∙ sym c.as_slice-2.ensures.lookups))

pub answers_of-requires-clause-queries : goal.answers_of-requires-clause-queries
answers_of-requires-clause-queries g c =
    let marks = c.deref-4.ensures.value ∙ c.in_ok-queries.ensures in
    let many : length c.deref-4.result.now ≡ length c.args.tables.now.tuples.now = ap length marks ∙ (length-map c.args.queries.now is_query ∙ omega (arith, c.if-queries-tables.false)) in
    ranges_of_records c.args.tables.now (lookups_of c.in_ok-set.set) c.in_ok-set.ensures.are c.deref-4.result.now many

pub returns : goal.returns
returns g c =
    shows_tables _ _ c.args.tables.now c.args.constraints.now c.args.height c.args.queries.now
    (lookups_of c.in_ok-set.set) c.as_slice.result.now c.as_slice-2.result.now c.in_ok-list.list.items c.deref.result.now
    c.in_ok-shown.shown.items c.deref-3.result.now c.deref-4.result.now c.in_ok-lookups.lookups.items c.in_ok-bounds.bounds.items
    c.in_ok-set.ensures c.in_ok-list.ensures (omega (arith, c.if-queries-tables.false))
    c.as_slice.ensures.lookups c.as_slice-2.ensures.lookups c.deref.ensures.value c.deref-3.ensures.value (c.deref-4.ensures.value ∙ c.in_ok-queries.ensures)
    c.in_ok-shown.ensures c.in_ok-lookups.ensures (c.in_ok-bounds.ensures ∙ ap (flat_map bound_list) c.deref-2.ensures.value)
