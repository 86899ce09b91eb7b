use Rattle.std.proofs.Common.{◌≡◌, ◌<◌, ◌+◌, length, ap, subst₂, sym, ◌∙◌, arith}
use Rattle.std.proofs.lemmas.List.{length-map}
use Rattle.list_laws.proofs.Images.{mapped_at}
use Rattle.list_laws.proofs.Items.{item_at}
use Rattle.list_laws.proofs.Zips.{zipped_at}
use Rattle.field.specs.Ring.{sub_in}
use Rattle.field.specs.laws.Extension.{of_laws}
use Rattle.lookup_model.proofs.Branches.{length-branches_at}
use Rattle.lookup_model.proofs.RecordLaws.{Fits-at, multiplicity_fits, tuple_fits}
use Rattle.lookup_model.specs.Denominators.{tuple_denominator}
use Rattle.lookup_model.specs.Sent.{branch_at, branches_at, value, values}
use Rattle.checker_witness.proofs.SelectionLaws.{HasSums, all_sums, no_sums, sums_more, sums_skipped}
use Rattle.checker_witness.specs.internal.TraceRows.{trace_layout, trace_window}
use Rattle.checker_witness.proofs.few_rows.exclusive_quotient_on.Goals.{then-not-is_zero, else-not-is_zero}
use Rattle.checker_witness.proofs.few_rows.exclusive_quotient_on.Goals as goal

pub value_of-flag-requires : goal.value_of-flag-requires
value_of-flag-requires g c =
    Fits-at (trace_layout c.args.row.now) c.args.flags.now c.loop-branch.branch c.index-flags-branch.result c.requires.flags_fit c.loop-branch-test.true c.index-flags-branch.is

pub value_of-multiplicity-requires : goal.value_of-multiplicity-requires
value_of-multiplicity-requires g c =
    multiplicity_fits (trace_layout c.args.row.now) c.args.lookup.now c.requires.within c.requires.lengths c.loop-branch.branch _ (omega (arith, c.loop-branch-test.true, c.requires.flag_number)) c.index.ensures

pub denominator_on-selected-requires : goal.denominator_on-selected-requires
denominator_on-selected-requires g c =
    tuple_fits (trace_layout c.args.row.now) c.args.lookup.now c.requires.within c.loop-branch.branch c.index-then-not-is_zero.result.now _ (omega (arith, c.loop-branch-test.true, c.requires.flag_number)) c.index-then-not-is_zero.ensures c.deref.ensures.value

pub loop-branch-init : goal.loop-branch-init
loop-branch-init g c =
    let E = of_laws g.met.EF.ExtensionField.lawful_fields in
    let w = trace_window c.args.row.now in
    let flags = values E.base w c.args.flags.now in
    let messages = branches_at E.base w c.args.lookup.now.column c.args.lookup.now in
    let over = tuple_denominator E c.args.alpha c.args.beta in
    subst₂ (HasSums E over flags messages 0) (sym (c.ZERO-numerator.ensures ∙ g.met.F.PrimeCharacteristicRing.zero_is)) (sym (c.ONE-denominator.ensures ∙ g.met.EF.PrimeCharacteristicRing.one_is))
    (no_sums E over flags messages g.EF.PrimeCharacteristicRing.lawful g.met.EF.ExtensionDomain.embeds)

pub loop-branch-preserved : goal.loop-branch-preserved
loop-branch-preserved g c =
    let E = of_laws g.met.EF.ExtensionField.lawful_fields in
    let R = E.base in
    let S = E.ring in
    let laws = g.EF.PrimeCharacteristicRing.lawful in
    let embeds = g.met.EF.ExtensionDomain.embeds in
    let base = g.met.F.PrimeCharacteristicRing in
    let met = g.met.EF.PrimeCharacteristicRing in
    let view = trace_window c.args.row.now in
    let lookup = c.args.lookup.now in
    let column = lookup.column in
    let es = c.args.flags.now in
    let flags = values R view es in
    let messages = branches_at R view column lookup in
    let over = tuple_denominator E c.args.alpha c.args.beta in
    let i = c.loop-branch.branch in
    let n = c.loop-branch.numerator in
    let d = c.loop-branch.denominator in
    let e = c.index-flags-branch.result in
    let f = value R view e in
    let f_is = mapped_at (value R view) es i e c.loop-branch-test.true c.index-flags-branch.is in
    let same : length messages ≡ length flags = length-branches_at R view column lookup c.requires.lengths ∙ sym (length-map es (value R view) ∙ c.requires.flag_number) in
    let within : i < length flags = omega (arith, c.loop-branch-test.true, length-map es (value R view)) in
    let so_far = c.loop-branch.invariant in
    elim c.if-not-is_zero.branch [
      | then-not-is_zero w ↦
          let tuple = w.index-then-not-is_zero.result.now in
          let m = branch_at R view column tuple.items w.index.result.now in
          let m_is = zipped_at (λ b. branch_at R view column b.0.items b.1) lookup.elements.items lookup.multiplicities.items c.requires.lengths.multiplicities i tuple w.index.result.now (omega (arith, c.loop-branch-test.true, c.requires.flag_number)) w.index-then-not-is_zero.ensures w.index.ensures in
          let d_is : w.denominator_on-selected.result ≡ over m.key.tuple = w.denominator_on-selected.ensures ∙ ap (λ xs. over (values R view xs)) w.deref.ensures.value in
          let n_next : c.if-not-is_zero.numerator ≡ R.add n (R.mul f m.multiplicity) =
          w.numerator-is ∙ base.add_is _ _ _ w.add-numerator.ensures ∙ ap (R.add n) (base.mul_is _ _ _ w.mul.ensures ∙ (λ k. R.mul (c.value_of-flag.ensures k) (w.value_of-multiplicity.ensures k))) in
          let less : w.sub.result ≡ sub_in S (over m.key.tuple) S.one =
          met.sub_is _ _ _ w.sub.ensures ∙ (λ k. sub_in S (d_is k) ((w.ONE.ensures ∙ met.one_is) k)) in
          let d_next : c.if-not-is_zero.denominator ≡ S.add d (S.mul (sub_in S (over m.key.tuple) S.one) (E.embed f)) =
          w.denominator-is ∙ met.add_is _ _ _ w.add-denominator.ensures ∙ ap (S.add d) (w.scaled.ensures ∙ (λ k. S.mul (less k) (E.embed (c.value_of-flag.ensures k)))) in
          subst₂ (HasSums E over flags messages (i + 1)) (sym n_next) (sym d_next) (sums_more E over flags messages laws embeds same i f m within f_is m_is n d so_far)
      | else-not-is_zero w ↦
          let m = item_at messages i (omega (arith, same, within)) in
          subst₂ (HasSums E over flags messages (i + 1)) (sym w.numerator-is) (sym w.denominator-is)
          (sums_skipped E over flags messages laws embeds same i f m.0 within f_is m.1 n d so_far (sym c.value_of-flag.ensures ∙ c.is_zero.ensures.0 w.if-not-is_zero.false))
    ]

pub returns : goal.returns
returns g c =
    let E = of_laws g.met.EF.ExtensionField.lawful_fields in
    let w = trace_window c.args.row.now in
    let es = c.args.flags.now in
    let flags = values E.base w es in
    let lookup = c.args.lookup.now in
    let messages = branches_at E.base w lookup.column lookup in
    let same : length messages ≡ length flags = length-branches_at E.base w lookup.column lookup c.requires.lengths ∙ sym (length-map es (value E.base w) ∙ c.requires.flag_number) in
    let all = all_sums E (tuple_denominator E c.args.alpha c.args.beta) flags messages g.EF.PrimeCharacteristicRing.lawful g.met.EF.ExtensionDomain.embeds same c.loop-branch.branch c.loop-branch.numerator c.loop-branch.denominator (omega (arith, length-map es (value E.base w), c.loop-branch-test.false)) c.loop-branch.invariant in
    (c.embed.ensures ∙ all.0, all.1)
