use Rattle.std.proofs.Common.{◌≡◌, ◌<◌, ◌≤◌, ◌+◌, ◌-◌, ◌∷◌, [], ℕ, List, drop, get_or, length, refl, ap, sym, ◌∙◌, arith}
use Rattle.std.proofs.Math.Seq.{drop-length}
use Rattle.field.proofs.DotProduct.{drop_read}
use Rattle.field.specs.Ring.{Ring, power, sub_in}
use Rattle.field.specs.laws.Extension.{of_laws}
use Rattle.field.specs.laws.RingFacts.{one_mul}
use Rattle.field.specs.laws.RingSolver.{var, con, ◌:+◌, ◌:-◌, ◌:*◌, ring_law}
use Rattle.lookup_columns.proofs.LessenedLaws.{denominator_front, power_more}
use Rattle.lookup_model.proofs.RecordLaws.{Fits-at}
use Rattle.lookup_model.specs.Denominators.{tuple_denominator}
use Rattle.lookup_model.specs.Sent.{value, values}
use Rattle.checker_witness.specs.internal.TraceRows.{trace_layout, trace_window}
use Rattle.checker_witness.proofs.few_rows.denominator_on.Goals as goal

no_power : {K : Type 0} (S : Ring K) (x : K) → S.one ≡ power S x 0
unfolding power
no_power S x = refl

-- the elements from an index on
from_index : {A : Type 0} (xs : List A) (left : ℕ) (x : A) → 0 < left → left ≤ length xs → x ≡ get_or xs (left - 1) x → drop (left - 1) xs ≡ x ∷ drop left xs
from_index xs left x some low is =
    let one_more : left - 1 + 1 ≡ left = omega (arith, some) in
    drop_read xs (left - 1) x (omega (arith, some, low)) is ∙ ap (λ n. x ∷ drop n xs) one_more

pub value_of-requires : goal.value_of-requires
value_of-requires g c =
    Fits-at (trace_layout c.args.row.now) c.args.tuple.now (length c.args.tuple.now - 1) c.index-tuple-left.result c.requires (omega (arith, c.if-left-eq0.false)) c.index-tuple-left.is

pub loop-left-init : goal.loop-left-init
loop-left-init g c =
    let E = of_laws g.met.EF.ExtensionField.lawful_fields in
    let S = E.ring in
    let laws = g.EF.PrimeCharacteristicRing.lawful in
    let tuple = c.args.tuple.now in
    let e = c.index-tuple-left.result in
    let w = trace_window c.args.row.now in
    let alpha = c.args.alpha in
    let beta = c.args.beta in
    let some : 0 < length tuple = omega (arith, c.if-left-eq0.false) in
    let split = from_index tuple (length tuple) e some (omega arith) c.index-tuple-left.is ∙ ap (λ es. e ∷ es) (drop-length tuple) in (
      omega (arith, some),
      λ _. sym (one_mul laws beta) ∙ power_more E.base laws E.embed alpha beta 0 (no_power S beta) ∙ ap (λ es. power S beta (length es)) (sym split),
      g.met.EF.PrimeCharacteristicRing.sub_is _ _ _ c.sub-denominator.ensures
          ∙ ap (sub_in S alpha) (c.embed.ensures ∙ ap E.embed c.value_of.ensures)
          ∙ ring_law laws (alpha ∷ E.embed (value E.base w e) ∷ beta ∷ []) (var 0 :- var 1) (var 0 :- (var 1 :+ var 2 :* con 0)) refl
          ∙ ap (λ es. tuple_denominator E alpha beta (values E.base w es)) (sym split),
    )

pub value_of-requires-in-loop-left : goal.value_of-requires-in-loop-left
value_of-requires-in-loop-left g c =
    Fits-at (trace_layout c.args.row.now) c.args.tuple.now (c.loop-left.left - 1) c.index-tuple-left-in-loop-left.result c.requires (omega (arith, c.loop-left.invariant.0)) c.index-tuple-left-in-loop-left.is

pub loop-left-preserved : goal.loop-left-preserved
loop-left-preserved g c =
    let E = of_laws g.met.EF.ExtensionField.lawful_fields in
    let S = E.ring in
    let tuple = c.args.tuple.now in
    let left = c.loop-left.left in
    let e = c.index-tuple-left-in-loop-left.result in
    let w = trace_window c.args.row.now in
    let alpha = c.args.alpha in
    let beta = c.args.beta in
    let so_far = c.loop-left.invariant in
    let split = from_index tuple left e c.loop-left-test.true (omega (arith, so_far.0)) c.index-tuple-left-in-loop-left.is in (
      omega (arith, so_far.0),
      λ more. absurd (omega (arith, more, c.if-left-gt0.false)),
      c.minus_scaled-denominator.ensures
          ∙ (λ k. sub_in S (so_far.2 k) (S.mul (so_far.1 c.loop-left-test.true k) (E.embed (c.value_of-in-loop-left.ensures k))))
          ∙ denominator_front E.base g.EF.PrimeCharacteristicRing.lawful E.embed alpha beta w e (drop left tuple)
          ∙ ap (λ es. tuple_denominator E alpha beta (values E.base w es)) (sym split),
    )

pub loop-left-preserved-then-left-gt0 : goal.loop-left-preserved-then-left-gt0
loop-left-preserved-then-left-gt0 g c =
    let E = of_laws g.met.EF.ExtensionField.lawful_fields in
    let S = E.ring in
    let laws = g.EF.PrimeCharacteristicRing.lawful in
    let tuple = c.args.tuple.now in
    let left = c.loop-left.left in
    let e = c.index-tuple-left-in-loop-left.result in
    let w = trace_window c.args.row.now in
    let alpha = c.args.alpha in
    let beta = c.args.beta in
    let so_far = c.loop-left.invariant in
    let split = from_index tuple left e c.loop-left-test.true (omega (arith, so_far.0)) c.index-tuple-left-in-loop-left.is in (
      omega (arith, so_far.0),
      λ _.
          g.met.EF.PrimeCharacteristicRing.mul_is _ _ _ c.mul-power.ensures
          ∙ power_more E.base laws E.embed alpha beta (length (drop left tuple)) (so_far.1 c.loop-left-test.true)
          ∙ ap (λ es. power S beta (length es)) (sym split),
      c.minus_scaled-denominator.ensures
          ∙ (λ k. sub_in S (so_far.2 k) (S.mul (so_far.1 c.loop-left-test.true k) (E.embed (c.value_of-in-loop-left.ensures k))))
          ∙ denominator_front E.base laws E.embed alpha beta w e (drop left tuple)
          ∙ ap (λ es. tuple_denominator E alpha beta (values E.base w es)) (sym split),
    )

pub returns : goal.returns
returns g c =
    let E = of_laws g.met.EF.ExtensionField.lawful_fields in
    let none_left : c.loop-left.left ≡ 0 = omega (arith, c.loop-left-test.false) in
    c.loop-left.invariant.2 ∙ ap (λ n. tuple_denominator E c.args.alpha c.args.beta (values E.base (trace_window c.args.row.now) (drop n c.args.tuple.now))) none_left
