use Rattle.std.proofs.cmp.SliceLoops.{Rest, all_seen, begun}
use Rattle.std.proofs.Common.{◌≡◌, ◌<◌, ◌&&◌, ◌+◌, ℕ, Bool, List, get_or, true, false, ap, arith, drop, length, refl, sym, ◌∙◌}
use Rattle.std.proofs.lemmas.List.{length-map}
use Rattle.std.specs.Cmp.Lexicographic.{pointwise, unequal}
use Rattle.list_laws.proofs.Images.{mapped_at}
use Rattle.field.specs.Ring.{Ring}
use Rattle.air_expressions.specs.Window.{Window}
use Rattle.air_expressions.specs.declared.base_expression.SymbolicExpression.{SymbolicExpression}
use Rattle.lookup_messages.specs.TraceBuilder.{builder_layout, builder_window}
use Rattle.lookup_model.proofs.RecordLaws.{Fits-at}
use Rattle.lookup_model.specs.Sent.{value, values}
use Rattle.lookup_debug.proofs.tuple_locations.has_values.Goals as goal

-- one more element is compared
compared : {F : Type 0} (eq : F → F → Bool) (R : Ring F) (w : Window F) (xs : List F) (es : List (SymbolicExpression F)) (i : ℕ) (x v : F) (e : SymbolicExpression F) (b : Bool)
    → i < length xs → i < length es → x ≡ get_or xs i x → e ≡ get_or es i e → v ≡ value R w e → b ≡ eq x v
    → Rest (pointwise eq) xs (values R w es) i → (b && pointwise eq (drop (i + 1) xs) (drop (i + 1) (values R w es))) ≡ pointwise eq xs (values R w es)
compared eq R w xs es i x v e b lt within x_is e_is v_is test so_far =
    ap (λ t. t && pointwise eq (drop (i + 1) xs) (drop (i + 1) (values R w es))) (test ∙ ap (eq x) v_is)
    ∙ begun xs (values R w es) i x (value R w e) lt (omega (arith, within, length-map es (value R w))) x_is (mapped_at (value R w) es i e within e_is) (pointwise eq)
    ∙ so_far

pub value_of-value-requires : goal.value_of-value-requires
value_of-value-requires g c =
    Fits-at (builder_layout c.args.builder.now) c.args.elements.now c.loop-index.index _ c.requires (omega arith) c.index-elements-index.is

pub returns-then-elements-tuple : goal.returns-then-elements-tuple
returns-then-elements-tuple g c =
    let R = g.F.PrimeCharacteristicRing.ring in
    let w = builder_window c.args.builder.now in
    let many = length-map c.args.elements.now (value R w) in
    sym (unequal g.F.PartialEq.eq c.args.tuple.now (values R w c.args.elements.now) (λ e. c.if-elements-tuple.true (sym many ∙ sym e)))

pub loop-index-init : goal.loop-index-init
loop-index-init g c = refl

pub returns-then-not-eq : goal.returns-then-not-eq
returns-then-not-eq g c =
    compared g.F.PartialEq.eq g.F.PrimeCharacteristicRing.ring (builder_window c.args.builder.now) c.args.tuple.now c.args.elements.now c.loop-index.index c.index-tuple-index.result c.value_of-value.result c.index-elements-index.result false
    c.loop-index-test.true (omega (arith, c.loop-index-test.true, c.if-elements-tuple.false)) c.index-tuple-index.is c.index-elements-index.is c.value_of-value.ensures c.if-not-eq.ensures c.loop-index.invariant

pub loop-index-preserved : goal.loop-index-preserved
loop-index-preserved g c =
    compared g.F.PartialEq.eq g.F.PrimeCharacteristicRing.ring (builder_window c.args.builder.now) c.args.tuple.now c.args.elements.now c.loop-index.index c.index-tuple-index.result c.value_of-value.result c.index-elements-index.result true
    c.loop-index-test.true (omega (arith, c.loop-index-test.true, c.if-elements-tuple.false)) c.index-tuple-index.is c.index-elements-index.is c.value_of-value.ensures c.if-not-eq.ensures c.loop-index.invariant

pub returns : goal.returns
returns g c =
    let R = g.F.PrimeCharacteristicRing.ring in
    let w = builder_window c.args.builder.now in
    let xs = c.args.tuple.now in
    let ys = values R w c.args.elements.now in
    let end : c.loop-index.index ≡ length xs = omega (arith, c.loop-index-test.false, c.loop-index.auto.index-end) in
    all_seen g.F.PartialEq.eq xs ys c.loop-index.index end (end ∙ sym c.if-elements-tuple.false ∙ sym (length-map c.args.elements.now (value R w))) ∙ c.loop-index.invariant
