use Rattle.std.proofs.Common.{◌≡◌, ◌∙◌, ap, inl, inr, map, refl, subst₂, sym}
use Rattle.std.proofs.lemmas.List.{length-map}
use Rattle.std.proofs.lemmas.Result.{err_from_is_err_and}
use Rattle.std.specs.Option.{option_copied}
use Rattle.lookup.specs.Lookups.{lookups_of}
use Rattle.lookup_debug.specs.Fits.{FitTraces, IsFitFault}
use Rattle.field.specs.Ring.{of_nat}
use Rattle.air.specs.Traces.{air_traces}
use Rattle.language_meaning.specs.Tables.{tables_of}
use Rattle.language_meaning.specs.Columns.{constraints_in}
use Rattle.language_meaning.specs.Lookups.{constraint_of, said_by_items, said_of}
use Rattle.language.specs.Batches.{air_of, section_of}
use Rattle.language.specs.Items.{placed_of}
use Rattle.check_judge.specs.Counts.{counts_in}
use Rattle.check_judge.specs.Said.{names_over, traces_in}
use Rattle.check_judge.proofs.CauseLaws.{whole_table}
use Rattle.check_judge.proofs.airs.air_over.Goals as goal

pub returns-in-None-clause-said : goal.returns-in-None-clause-said
returns-in-None-clause-said g c =
    let text = c.args.text.now in
    let sections = map section_of c.args.batch.now.sections.items in
    let main = c.args.tables.now.main in
    let long = sym (length-map main.names.items (λ name. name.items)) in
    let columns = ap (map (λ name. name.items)) c.deref.ensures.value in
    let public_values = c.in_ok-public_values.ensures ∙ ap (map (of_nat g.F.PrimeCharacteristicRing.ring)) c.deref-2.ensures.value in (
      said_of c.in_ok-named.named,
      refl,
      record {
        items = (λ k. said_by_items sections (names_over text (sym columns k) (sym c.in_ok-fixed_names.ensures.0 k)) 0 (air_of c.args.air.now).items c.args.room) ∙ c.in_ok-named.ensures;
        lookups = c.in_ok-lookups.ensures;
        traces = λ k. air_traces ((c.in_ok-main.ensures ∙ (λ i. record { values = map (of_nat g.F.PrimeCharacteristicRing.ring) main.cells.items; width = long i })) k) (c.in_ok-fixed_names.ensures.1 k) (public_values k);
        fixed_whole = c.in_ok-fixed_names.ensures.2;
        main_whole = (whole_table main).0 (c.has_whole_rows.ensures.0 c.if-not-has_whole_rows.false);
        fit = subst₂ FitTraces (λ k. air_traces c.in_ok-main.main (c.as_ref.ensures.value k) (c.deref-5.ensures.value k)) c.as_slice.ensures.lookups c.in-None.ensures;
      },
    )

pub returns-in-None-clause-constrained : goal.returns-in-None-clause-constrained
returns-in-None-clause-constrained g c =
    let text = c.args.text.now in
    let sections = map section_of c.args.batch.now.sections.items in
    let main = c.args.tables.now.main in
    let long = sym (length-map main.names.items (λ name. name.items)) in
    let columns = ap (map (λ name. name.items)) c.deref.ensures.value in
    let public_values = c.in_ok-public_values.ensures ∙ ap (map (of_nat g.F.PrimeCharacteristicRing.ring)) c.deref-2.ensures.value in (
      said_of c.in_ok-named.named,
      refl,
      record {
        items = (λ k. said_by_items sections (names_over text (sym columns k) (sym c.in_ok-fixed_names.ensures.0 k)) 0 (air_of c.args.air.now).items c.args.room) ∙ c.in_ok-named.ensures;
        traces = λ k. air_traces ((c.in_ok-main.ensures ∙ (λ i. record { values = map (of_nat g.F.PrimeCharacteristicRing.ring) main.cells.items; width = long i })) k) (c.in_ok-fixed_names.ensures.1 k) (public_values k);
        constraints = c.in_ok-constraints.ensures ∙ ap (λ ns. constraints_in (of_nat g.F.PrimeCharacteristicRing.ring) (map constraint_of ns)) c.deref-3.ensures.value;
        lookups = c.in_ok-lookups.ensures;
        counts = c.in_ok-counts.ensures ∙ ap (λ items. counts_in (map placed_of items)) c.deref-4.ensures.value;
      },
    )

pub returns-in_err-lookups-clause-refused : goal.returns-in_err-lookups-clause-refused
returns-in_err-lookups-clause-refused g c =
    let p = err_from_is_err_and c.from_residual-in_err-lookups.result c.from_residual-in_err-lookups.ensures.1 in
    let main = c.args.tables.now.main in
    let columns = ap (map (λ name. name.items)) c.deref.ensures.value in
    let says = (λ k. said_by_items (map section_of c.args.batch.now.sections.items) (names_over c.args.text.now (sym columns k) (sym c.in_ok-fixed_names.ensures.0 k)) 0 (air_of c.args.air.now).items c.args.room) ∙ c.in_ok-named.ensures in
    let whole = (whole_table main).0 (c.has_whole_rows.ensures.0 c.if-not-has_whole_rows.false) in
    rw (p.1, p.2) (elim c.in_err-lookups.ensures [
      | inl memory ↦ inl memory
      | inr refusal ↦ inr (inr (c.in_ok-fixed_names.ensures.2, inr (whole, inr (said_of c.in_ok-named.named, says, inl refusal))))
    ])

pub returns-in-Some-clause-refused : goal.returns-in-Some-clause-refused
returns-in-Some-clause-refused g c =
    let main = c.args.tables.now.main in
    let columns = ap (map (λ name. name.items)) c.deref.ensures.value in
    let says = (λ k. said_by_items (map section_of c.args.batch.now.sections.items) (names_over c.args.text.now (sym columns k) (sym c.in_ok-fixed_names.ensures.0 k)) 0 (air_of c.args.air.now).items c.args.room) ∙ c.in_ok-named.ensures in
    let whole = (whole_table main).0 (c.has_whole_rows.ensures.0 c.if-not-has_whole_rows.false) in
    let long = sym (length-map main.names.items (λ name. name.items)) in
    let public_values = c.deref-5.ensures.value ∙ (c.in_ok-public_values.ensures ∙ ap (map (of_nat g.F.PrimeCharacteristicRing.ring)) c.deref-2.ensures.value) in
    let traces : air_traces c.in_ok-main.main (option_copied c.as_ref.result) c.deref-5.result.now ≡ traces_in (of_nat g.F.PrimeCharacteristicRing.ring) (tables_of c.args.tables.now) (said_of c.in_ok-named.named) = λ k. air_traces ((c.in_ok-main.ensures ∙ (λ i. record { values = map (of_nat g.F.PrimeCharacteristicRing.ring) main.cells.items; width = long i })) k) ((c.as_ref.ensures.value ∙ c.in_ok-fixed_names.ensures.1) k) (public_values k) in
    let fault = subst₂ (λ ts ls. IsFitFault ts ls c.in-Some.fault) traces c.as_slice.ensures.lookups c.in-Some.ensures in
    inr (inr (c.in_ok-fixed_names.ensures.2, inr (whole, inr (said_of c.in_ok-named.named, says, inr (lookups_of c.in_ok-lookups.lookups, c.in-Some.fault, c.in_ok-lookups.ensures, fault, refl)))))
