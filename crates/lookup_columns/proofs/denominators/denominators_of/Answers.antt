use Rattle.std.proofs.Common.{◌≡◌, ◌<◌, ◌+◌, map, ◌-◌, ◌∷◌, ◌++◌, List, All, arith, ap, sym, subst, ◌∙◌, drop, length, take}
use Rattle.std.proofs.lemmas.List.{length-drop, length-map}
use Rattle.std.proofs.Math.Seq.{take-append_seam}
use Rattle.list_laws.proofs.Zips.{length-zipped}
use Rattle.lookup_model.specs.Sent.{value}
use Rattle.std.specs.List.{zip}
use Rattle.field.proofs.DotProduct.{drop_read}
use Rattle.field.specs.Ring.{power, sub_in}
use Rattle.lookup_columns.specs.Columns.{tuple_denominator_at, tuple_denominators}
use Rattle.air.specs.Traces.{layout_of, traces_of, window_of}
use Rattle.lookup_columns.proofs.LessenedLaws.{column_front, first_power, power_more}
use Rattle.std.proofs.lemmas.Slice.Zip.{AllZip-long}
use Rattle.list_laws.proofs.Each.{All-at}
use Rattle.lookup_columns.proofs.ZipLaws.{beside}
use Rattle.lookup_columns.specs.Steps.{AreStepsOf, StepFits}
use Rattle.air_expressions.specs.Tree.{tree_of}
use Rattle.lookup_columns.proofs.denominators.denominators_of.Goals as goal

pub loop-left-init : goal.loop-left-init
loop-left-init g c =
    let R = g.F.PrimeCharacteristicRing.ring in
    let S = g.EF.PrimeCharacteristicRing.ring in
    let steps = c.args.tuple.now in
    let ws = window_of (traces_of c.args.inputs.now.traces.now) in
    let left = c.saturating_sub-left.result in
    let left_is : left ≡ length steps - 1 = c.saturating_sub-left.ensures in (
      omega arith,
      λ more.
          let one : 1 ≡ length (drop left steps) = omega (arith, more, left_is, length-drop left steps) in
          first_power g.EF.PrimeCharacteristicRing.lawful c.args.beta ∙ ap (power S c.args.beta) one,
      λ es are.
          c.in_ok-denominators.ensures es are c.args.beta
          ∙ ap (λ n. tuple_denominators R S g.EF.ExtensionDomain.embed ws c.args.alpha c.args.beta c.args.rows.now (drop n es)) (sym left_is),
    )

pub column_of-requires-clause-fits : goal.column_of-requires-clause-fits
column_of-requires-clause-fits g c =
    let fits = StepFits (layout_of (traces_of c.args.inputs.now.traces.now)) in
    subst (λ (l : List _). All fits l) (sym c.deref.ensures.value)
    (All-at (λ v. All fits v.items) c.args.tuple.now (c.loop-left.left - 1) c.index-tuple-left.result c.requires.fits (omega (arith, c.loop-left.invariant.0, c.loop-left-test.true)) c.index-tuple-left.is)

pub loop-left-preserved : goal.loop-left-preserved
loop-left-preserved g c =
    let R = g.F.PrimeCharacteristicRing.ring in
    let S = g.EF.PrimeCharacteristicRing.ring in
    let met = g.met.EF.PrimeCharacteristicRing in
    let embed = g.EF.ExtensionDomain.embed in
    let beta = c.args.beta in
    let steps = c.args.tuple.now in
    let ws = window_of (traces_of c.args.inputs.now.traces.now) in
    let left = c.loop-left.left in
    let step = c.index-tuple-left.result in
    let so_far = c.loop-left.invariant in
    let power_is = so_far.1 c.loop-left-test.true in
    let below : left - 1 < length steps = omega (arith, so_far.0, c.loop-left-test.true) in
    let one_more : left - 1 + 1 ≡ left = omega (arith, c.loop-left-test.true) in
    let split = drop_read steps (left - 1) step below c.index-tuple-left.is ∙ ap (λ n. step ∷ drop n steps) one_more in (
      omega (arith, so_far.0),
      λ _. met.mul_is _ _ _ c.mul-power.ensures ∙ power_more R g.EF.PrimeCharacteristicRing.lawful embed c.args.alpha beta (length (drop left steps)) power_is ∙ ap (λ l. power S beta (length l)) (sym split),
      λ es are.
          let other = beside AreStepsOf steps es (left - 1) step are below c.index-tuple-left.is in
          let e = other.item in
          let rest = drop left es in
          let many : length (drop left steps) ≡ length rest = omega (arith, length-drop left steps, length-drop left es, AllZip-long AreStepsOf steps es are) in
          let before = c.deref_mut.result.now in
          let column = c.deref-in-loop-left.result.now in
          let new = c.lessen.new.elements in
          let items = c.loop-left.denominators.items in
          let before_is = c.deref_mut.ensures.value ∙ so_far.2 es are in
          let column_is = c.deref-in-loop-left.ensures.value ∙ c.in_ok-column.ensures (tree_of e) (c.deref.ensures.value ∙ other.holds) in
          let same : length before ≡ length column =
          ap length before_is ∙ length-map c.args.rows.now (λ r. tuple_denominator_at R S embed c.args.alpha beta (ws r) rest) ∙ sym (ap length column_is ∙ length-map c.args.rows.now (λ r. value R (ws r) e)) in
          let lessened = c.lessen.ensures same in
          let long : length new ≡ length items = ap length lessened ∙ length-zipped (λ p. sub_in S p.0 (S.mul c.loop-left.power (embed p.1))) before column (sym same) ∙ ap length c.deref_mut.ensures.value in
          let len : c.loop-left.denominators.len ≡ length new = sym c.deref_mut.ensures.len ∙ ap length c.deref_mut.ensures.value ∙ sym long in
          ap (λ n. take n (new ++ drop (length new) items)) len ∙ take-append_seam new (drop (length new) items)
          ∙ column_front R g.EF.PrimeCharacteristicRing.lawful embed c.args.alpha beta ws c.args.rows.now e rest before_is column_is
          (lessened ∙ ap (λ q. map (λ p. sub_in S p.0 (S.mul q (embed p.1))) (zip before column)) (power_is ∙ ap (power S beta) many))
          ∙ ap (tuple_denominators R S embed ws c.args.alpha beta c.args.rows.now) (sym (drop_read es (left - 1) e other.within other.there ∙ ap (λ n. e ∷ drop n es) one_more)),
    )

pub returns : goal.returns
returns g c = λ es are.
    let S = g.EF.PrimeCharacteristicRing.ring in
    let ws = window_of (traces_of c.args.inputs.now.traces.now) in
    let none_left : c.loop-left.left ≡ 0 = omega (arith, c.loop-left-test.false) in
    c.loop-left.invariant.2 es are
    ∙ ap (λ n. tuple_denominators g.F.PrimeCharacteristicRing.ring S g.EF.ExtensionDomain.embed ws c.args.alpha c.args.beta c.args.rows.now (drop n es)) none_left
