use Rattle.std.proofs.Common.{◌≡◌, ◌+◌, length, sym, ap, subst₂, ◌∙◌, arith}
use Rattle.std.proofs.lemmas.Bool.{iff_false}
use Rattle.std.proofs.lemmas.Option.{slice_get_within}
use Rattle.std.proofs.lemmas.Slice.Zip.{AllZip-long}
use Rattle.list_laws.proofs.Items.{read_is}
use Rattle.field.specs.Ring.{sub_in}
use Rattle.lookup_columns.specs.ChunkColumns.{HasFlag, IsStoredIfSet}
use Rattle.field.specs.laws.Extension.{of_laws}
use Rattle.lookup_columns.proofs.ReadLaws.{flag, flag_read, flag_within, held_there, message, index_kept}
use Rattle.checker_witness.proofs.SelectionLaws.{HasSums, all_sums, no_sums, sums_more, sums_skipped}
use Rattle.checker_witness.specs.internal.Quotients.{over_tuples}
use Rattle.checker_witness.proofs.fractions.exclusive_quotient.Goals.{then-not-is_zero, else-not-is_zero}
use Rattle.checker_witness.proofs.fractions.exclusive_quotient.Goals as goal

pub index-flag-requires : goal.index-flag-requires
index-flag-requires g c =
    omega (arith, flag_within g.F.PrimeCharacteristicRing.ring c.requires.0 c.args.index c.args.columns.now c.requires.1 c.requires.2 c.requires.3 c.loop-branch.branch-index c.branch-item.result c.loop-branch-test.true c.branch-item.is)

pub index-at-requires : goal.index-at-requires
index-at-requires g c =
    let R = g.F.PrimeCharacteristicRing.ring in
    omega (arith, index_kept R c.requires.0 c.args.index c.args.columns.now c.requires.1 c.requires.2 c.requires.3 c.loop-branch.branch-index c.branch-item.result c.loop-branch-test.true c.branch-item.is c.index-flag.result.now c.index-flag.ensures (iff_false c.is_zero.ensures c.if-not-is_zero.true))

pub index-requires : goal.index-requires
index-requires g c =
    let R = g.F.PrimeCharacteristicRing.ring in
    let held = held_there R c.requires.0 c.args.index c.args.columns.now c.requires.1 c.requires.2 c.requires.3 c.loop-branch.branch-index c.branch-item.result c.loop-branch-test.true c.branch-item.is c.index-flag.result.now c.index-flag.ensures (iff_false c.is_zero.ensures c.if-not-is_zero.true) c.index-at.result.now c.index-at.ensures in
    omega (arith, slice_get_within _ c.index-at.result.now _ held.0)

pub index-requires-then-not-is_zero : goal.index-requires-then-not-is_zero
index-requires-then-not-is_zero g c =
    let R = g.F.PrimeCharacteristicRing.ring in
    let held = held_there R c.requires.0 c.args.index c.args.columns.now c.requires.1 c.requires.2 c.requires.3 c.loop-branch.branch-index c.branch-item.result c.loop-branch-test.true c.branch-item.is c.index-flag.result.now c.index-flag.ensures (iff_false c.is_zero.ensures c.if-not-is_zero.true) c.index-at.result.now c.index-at.ensures in
    omega (arith, slice_get_within _ c.index-at.result.now _ held.1)

pub loop-branch-init : goal.loop-branch-init
loop-branch-init g c = λ denominator flags messages selected.
    let E = of_laws g.met.EF.ExtensionField.lawful_fields in
    subst₂ (HasSums E denominator flags messages 0) (sym (c.ZERO-numerator.ensures ∙ g.met.F.PrimeCharacteristicRing.zero_is)) (sym (c.ONE-denominator.ensures ∙ g.met.EF.PrimeCharacteristicRing.one_is))
    (no_sums E denominator flags messages g.EF.PrimeCharacteristicRing.lawful g.met.EF.ExtensionDomain.embeds)

pub loop-branch-preserved : goal.loop-branch-preserved
loop-branch-preserved g c = λ denominator flags messages selected.
    let E = of_laws g.met.EF.ExtensionField.lawful_fields in
    let R = E.base in
    let S = E.ring in
    let laws = g.EF.PrimeCharacteristicRing.lawful in
    let embeds = g.met.EF.ExtensionDomain.embeds in
    let base = g.met.F.PrimeCharacteristicRing in
    let met = g.met.EF.PrimeCharacteristicRing in
    let index = c.args.index in
    let columns = c.args.columns.now in
    let i = c.loop-branch.branch-index in
    let branch = c.branch-item.result in
    let n = c.loop-branch.numerator in
    let d = c.loop-branch.denominator in
    let read = c.index-flag.result.now in
    let over = over_tuples denominator in
    let one = flag R over index columns flags messages selected i branch c.loop-branch-test.true c.branch-item.is in
    let sent = message R over index columns flags messages selected i branch c.loop-branch-test.true c.branch-item.is in
    let m = sent.item in
    let f_is : one.item ≡ read = flag_read R over index columns flags messages selected i branch c.loop-branch-test.true c.branch-item.is read c.index-flag.ensures in
    let same : length messages ≡ length flags = omega (arith, AllZip-long (HasFlag index) columns flags selected.flags_are, AllZip-long (IsStoredIfSet R over index) columns messages selected.held) in
    let so_far = c.loop-branch.invariant denominator flags messages selected in
    elim c.if-not-is_zero.branch [
      | then-not-is_zero w ↦
          let at = w.index-at.result.now in
          let held = held_there R over index columns flags messages selected i branch c.loop-branch-test.true c.branch-item.is read c.index-flag.ensures (iff_false c.is_zero.ensures w.if-not-is_zero.true) at w.index-at.ensures in
          let m_is : w.index.result.now ≡ m.multiplicity = sym (read_is branch.multiplicities.items at w.index.result.now m.multiplicity held.0 w.index.ensures) in
          let d_is : w.index-then-not-is_zero.result.now ≡ denominator m.key.tuple =
          sym (read_is branch.denominators.items at w.index-then-not-is_zero.result.now (denominator m.key.tuple) held.1 w.index-then-not-is_zero.ensures) in
          let n_next : c.if-not-is_zero.numerator ≡ R.add n (R.mul one.item m.multiplicity) =
          w.numerator-is ∙ base.add_is _ _ _ w.add-numerator.ensures ∙ ap (R.add n) (base.mul_is _ _ _ w.mul.ensures ∙ (λ k. R.mul (sym f_is k) (m_is k))) in
          let less : w.sub.result ≡ sub_in S (denominator m.key.tuple) S.one =
          met.sub_is _ _ _ w.sub.ensures ∙ (λ k. sub_in S (d_is k) ((w.ONE.ensures ∙ met.one_is) k)) in
          let d_next : c.if-not-is_zero.denominator ≡ S.add d (S.mul (sub_in S (denominator m.key.tuple) S.one) (E.embed one.item)) =
          w.denominator-is ∙ met.add_is _ _ _ w.add-denominator.ensures ∙ ap (S.add d) (w.scaled.ensures ∙ (λ k. S.mul (less k) (E.embed (sym f_is k)))) in
          subst₂ (HasSums E denominator flags messages (i + 1)) (sym n_next) (sym d_next) (sums_more E denominator flags messages laws embeds same i one.item m one.within one.there sent.there n d so_far)
      | else-not-is_zero w ↦
          subst₂ (HasSums E denominator flags messages (i + 1)) (sym w.numerator-is) (sym w.denominator-is)
          (sums_skipped E denominator flags messages laws embeds same i one.item m one.within one.there sent.there n d so_far (f_is ∙ c.is_zero.ensures.0 w.if-not-is_zero.false))
    ]

pub returns : goal.returns
returns g c = λ denominator flags messages selected.
    let E = of_laws g.met.EF.ExtensionField.lawful_fields in
    let index = c.args.index in
    let columns = c.args.columns.now in
    let long = AllZip-long (HasFlag index) columns flags selected.flags_are in
    let same : length messages ≡ length flags = omega (arith, long, AllZip-long (IsStoredIfSet E.base (over_tuples denominator) index) columns messages selected.held) in
    let all = all_sums E denominator flags messages g.EF.PrimeCharacteristicRing.lawful g.met.EF.ExtensionDomain.embeds same c.loop-branch.branch-index c.loop-branch.numerator c.loop-branch.denominator (omega (arith, long, c.loop-branch-test.false)) (c.loop-branch.invariant denominator flags messages selected) in
    (c.embed.ensures ∙ all.0, all.1)
