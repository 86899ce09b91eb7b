use Rattle.std.proofs.Common.{◌≡◌, ◌≤◌, ◌<◌, ℕ, List, sym, get_or, length, map, slice_range, subst, ap, ◌∙◌, arith}
use Rattle.std.proofs.lemmas.List.{take_all}
use Rattle.lookup_debug.specs.internal.Arena.{span_amount}
use Rattle.lookup_debug.specs.declared.arena.TupleSpan.{TupleSpan}
use Rattle.lookup_debug.specs.internal.Nets.{amount_nets}
use Rattle.lookup_debug.proofs.SpanLaws.{span_more}
use Rattle.lookup_debug.proofs.arena.nets.Goals as goal

-- the span that is read of a list with the same items
span_there : {F : Type 0} (spans all : List (TupleSpan F)) (i : ℕ) (span : TupleSpan F) → all ≡ spans → i < length all → span ≡ get_or all i span → (i < length spans) × (span ≡ get_or spans i span)
span_there spans all i span same lt is = (subst (λ t. i < length t) same lt, is ∙ ap (λ t. get_or t i span) same)

pub loop-span-preserved : goal.loop-span-preserved
loop-span-preserved g c =
    let R = g.F.PrimeCharacteristicRing in
    let spans = c.args.contributions.now.spans.items in
    let elements = c.args.contributions.now.elements.items in
    let i = c.loop-span.span-index in
    let span = c.span-item.result in
    let at = span_there spans _ i span c.deref-span-items.ensures.value c.loop-span-test.true c.span-item.is in
    span_more R.lawful g.F.PartialEq.eq g.met.F.PrimeCharacteristicRing.eq_is elements spans i span at.0 at.1 c.loop-span.nets.entries _ _
    (λ j. slice_range (c.as_slice-elements.ensures.value j) span.start span.end) c.loop-span.invariant c.in_ok-add_at.ensures.adds

pub returns : goal.returns
returns g c =
    let R = g.F.PrimeCharacteristicRing.ring in
    let spans = c.args.contributions.now.spans.items in
    let elements = c.args.contributions.now.elements.items in
    c.loop-span.invariant
    ∙ ap (λ t. amount_nets R g.F.PartialEq.eq (map (span_amount elements) t)) (take_all c.loop-span.span-index spans (omega (arith, c.loop-span-test.false, c.deref-span-items.ensures.len)))

pub bounds-span-items-span-index : goal.bounds-span-items-span-index
bounds-span-items-span-index g c = omega (arith, c.loop-span-test.true)

pub offset_bounds-span-items-span-index : goal.offset_bounds-span-items-span-index
offset_bounds-span-items-span-index g c = omega (arith, c.loop-span-test.true)

pub slice_bounds-tuple-count : goal.slice_bounds-tuple-count
slice_bounds-tuple-count g c =
    let i = c.loop-span.span-index in
    let spans = c.args.contributions.now.spans.items in
    let span = c.span-item.result in
    let at = span_there spans _ i span c.deref-span-items.ensures.value c.loop-span-test.true c.span-item.is in
    subst (λ d. d.start ≤ d.end) (sym at.1) (c.requires.within i span at.0).0

pub offset_bounds-elements-span : goal.offset_bounds-elements-span
offset_bounds-elements-span g c =
    let i = c.loop-span.span-index in
    let spans = c.args.contributions.now.spans.items in
    let span = c.span-item.result in
    let at = span_there spans _ i span c.deref-span-items.ensures.value c.loop-span-test.true c.span-item.is in
    let within = c.requires.within i span at.0 in
    omega (arith, within.0, within.1, ap (λ d. d.start) at.1, ap length c.as_slice-elements.ensures.value)
