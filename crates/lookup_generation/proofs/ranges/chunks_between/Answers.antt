use Rattle.std.proofs.Common.{◌≡◌, ◌≤◌, ◌<◌, ◌+◌, ◌-◌, ◌*◌, ◌%◌, ℕ, drop, length, refl, sym, ap, subst, ◌∙◌, inl, inr, arith}
use Rattle.std.proofs.lemmas.Bool.{cases_lt}
use Rattle.std.proofs.lemmas.Result.{err_from_is_err_and}
use Rattle.air.specs.Traces.{traces_of, window_of}
use Rattle.field.specs.Extension.{extension}
use Rattle.lookup_generation.proofs.ProgressLaws.{product_joined}
use Rattle.lookup_generation.proofs.RangeFaults.{refused_later}
use Rattle.lookup_generation.specs.Progress.{started_chunks}
use Rattle.lookup_generation.specs.internal.Chunks.{HasCellsFrom, HasNoFaultOn, all_sent}
use Rattle.lookup_generation.specs.internal.Progress.{HasCells}
use Rattle.lookup_model.specs.Denominators.{key_denominator}
use Rattle.lookup_generation.proofs.ranges.chunks_between.Goals as goal

-- one chunk more, after whole chunks
one_more : (first next until : ℕ) → first ≤ next → next < until → until ≤ next + 1024 → (next - first) % 1024 ≡ 0 → started_chunks (until - first) ≡ started_chunks (next - first) + 1
one_more first next until from further most whole = omega (arith, from, further, most, whole)

pub loop-next-init : goal.loop-next-init
loop-next-init g c =
    let none : 0 ≡ c.args.first - c.args.first = omega arith in
    let empty : 0 ≡ 0 * (length c.args.inputs.now.lookups.now + 1) = omega arith in (
      omega arith,
      c.requires.from,
      inl (omega arith),
      omega arith,
      ap length c.in_ok-with_capacity.ensures.items ∙ empty ∙ ap (λ n. n * (length c.args.inputs.now.lookups.now + 1)) none,
      λ no_tuples. refl,
      λ inverse is_inverse.
          let E = extension g.F.PrimeCharacteristicRing.ring g.F.PartialEq.eq g.EF.PrimeCharacteristicRing.ring g.EF.PartialEq.eq g.EF.ExtensionDomain.embed inverse in (
            subst (λ n. HasCells E (key_denominator E c.args.inputs.now.challenges.now) (drop c.args.first (all_sent E.base E.base_eq c.args.inputs.now)) n c.in_ok-with_capacity.field-0.items c.ZERO.result) none
                (record { cells_are = c.in_ok-with_capacity.ensures.items; accumulator_is = c.ZERO.ensures ∙ g.met.EF.PrimeCharacteristicRing.zero_is }),
            λ r low high. absurd (omega (arith, low, high)),
          ),
    )

pub loop-next-preserved : goal.loop-next-preserved
loop-next-preserved g c =
    let before = c.loop-next.invariant in
    let chunk = c.chunk_end-until.ensures in
    let first = c.args.first in
    let next = c.loop-next.next in
    let until = c.chunk_end-until.result in
    let width = length c.args.inputs.now.lookups.now + 1 in
    let whole : (next - first) % 1024 ≡ 0 = elim before.2 [
      | inl even ↦ even
      | inr last ↦ absurd (omega (arith, last, c.loop-next-test.true))
    ] in
    let one = one_more first next until before.0 chunk.further chunk.most whole in
    let more : (until - first) - (next - first) ≡ until - next = omega (arith, before.0, chunk.further) in (
      omega (arith, before.0, chunk.further),
      chunk.up_to,
      elim chunk.full_or_last [
        | inl full ↦ inl (omega (arith, full, before.0, whole))
        | inr last ↦ inr last
      ],
      omega (arith, one, before.3, c.in_ok-push_chunk.ensures.counted),
      c.in_ok-push_chunk.ensures.many ∙ ap (λ m. m + (until - next) * width) before.4 ∙ ap (λ k. (next - first) * width + k * width) (sym more) ∙ product_joined (next - first) (until - first) width (omega (arith, before.0, chunk.further)),
      λ no_tuples. c.in_ok-push_chunk.ensures.nothing_sent no_tuples ∙ before.5 no_tuples,
      λ inverse is_inverse. (
        c.in_ok-push_chunk.ensures.rows inverse is_inverse first before.0 (before.6 inverse is_inverse).0,
        λ r low high. elim (cases_lt r next) [
          | inl earlier ↦ (before.6 inverse is_inverse).1 r low earlier
          | inr late ↦ c.in_ok-push_chunk.ensures.faults inverse is_inverse r late high
        ],
      ),
    )

pub returns-in_err-push_chunk-clause-one_fewer_if_refused : goal.returns-in_err-push_chunk-clause-one_fewer_if_refused
returns-in_err-push_chunk-clause-one_fewer_if_refused g c =
    let before = c.loop-next.invariant in
    let p = err_from_is_err_and c.from_residual-in_err-push_chunk.result c.from_residual-in_err-push_chunk.ensures.1 in
    let further : started_chunks (c.loop-next.next - c.args.first) < started_chunks (c.args.end - c.args.first) = elim before.2 [
      | inl even ↦ omega (arith, even, before.0, c.loop-next-test.true)
      | inr last ↦ absurd (omega (arith, last, c.loop-next-test.true))
    ] in
    rw (p.1, p.2) (elim c.in_err-push_chunk.ensures.one_fewer_if_refused [
      | inl memory ↦ inl memory
      | inr same ↦ inr (omega (arith, same, before.3, further))
    ])

pub returns-in_err-push_chunk-clause-rows : goal.returns-in_err-push_chunk-clause-rows
returns-in_err-push_chunk-clause-rows g c = λ inverse is_inverse.
    let E = extension g.F.PrimeCharacteristicRing.ring g.F.PartialEq.eq g.EF.PrimeCharacteristicRing.ring g.EF.PartialEq.eq g.EF.ExtensionDomain.embed inverse in
    let before = c.loop-next.invariant in
    let p = err_from_is_err_and c.from_residual-in_err-push_chunk.result c.from_residual-in_err-push_chunk.ensures.1 in
    rw (p.1, p.2)
    (refused_later E (key_denominator E c.args.inputs.now.challenges.now) (window_of (traces_of c.args.inputs.now.traces.now)) c.args.inputs.now.lookups.now c.args.first c.loop-next.next c.chunk_end-until.result c.args.end _ before.0 c.chunk_end-until.ensures.up_to
    (before.6 inverse is_inverse).1 (c.in_err-push_chunk.ensures.faults inverse is_inverse))

pub returns-clause-rows : goal.returns-clause-rows
returns-clause-rows g c = λ inverse is_inverse.
    let E = extension g.F.PrimeCharacteristicRing.ring g.F.PartialEq.eq g.EF.PrimeCharacteristicRing.ring g.EF.PartialEq.eq g.EF.ExtensionDomain.embed inverse in
    let all : c.loop-next.next ≡ c.args.end = omega (arith, c.loop-next-test.false, c.loop-next.invariant.1) in
    subst (λ n. HasCellsFrom E c.args.inputs.now c.args.first n c.loop-next.made × HasNoFaultOn E c.args.inputs.now c.args.first n) all (c.loop-next.invariant.6 inverse is_inverse)

pub returns-clause-many : goal.returns-clause-many
returns-clause-many g c =
    let all : c.loop-next.next ≡ c.args.end = omega (arith, c.loop-next-test.false, c.loop-next.invariant.1) in
    c.loop-next.invariant.4 ∙ ap (λ n. (n - c.args.first) * (length c.args.inputs.now.lookups.now + 1)) all

pub returns-clause-counted : goal.returns-clause-counted
returns-clause-counted g c =
    let all : c.loop-next.next ≡ c.args.end = omega (arith, c.loop-next-test.false, c.loop-next.invariant.1) in
    omega (arith, all, c.loop-next.invariant.3)

pub returns-in_err-push_chunk-clause-nothing_sent : goal.returns-in_err-push_chunk-clause-nothing_sent
returns-in_err-push_chunk-clause-nothing_sent g c = λ no_tuples. c.in_err-push_chunk.ensures.nothing_sent no_tuples ∙ c.loop-next.invariant.5 no_tuples
