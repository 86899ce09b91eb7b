use Rattle.std.proofs.Common.{◌∙◌, ap, arith, inl, inr, map, refl, subst, sym}
use Rattle.std.proofs.lemmas.List.{take_all}
use Rattle.std.proofs.lemmas.Result.{err_from_is_err_and}
use Rattle.std.proofs.lemmas.Simd.{map-map}
use Rattle.batch.specs.Checks.{IsPlanFor, IsPlanRefusal}
use Rattle.batch.specs.Runs.{plan_of}
use Rattle.lookup_model.specs.Outline.{outline_of}
use Rattle.check_judge.specs.Found.{Sized}
use Rattle.check_judge.specs.internal.Sizes.{sized_lookups_of}
use Rattle.check_judge.specs.Refusals.{of_batch}
use Rattle.check_judge.proofs.plan.plan_over.Goals as goal

pub returns : goal.returns
returns g c =
    let airs = c.args.airs.now in
    let lookups = c.loop-air.lookups.items in
    let all = take_all c.loop-air.air-index airs (omega (arith, c.loop-air-test.false)) in
    let heights = c.loop-air.invariant.heights ∙ (ap (map (λ air. (sized_lookups_of air).rows)) all ∙ sym (map-map (λ (a : Sized _). a.rows) sized_lookups_of airs)) in (
      lookups,
      c.loop-air.invariant.copies ∙ (ap (map (λ air. map outline_of (sized_lookups_of air).lookups)) all ∙ sym (map-map (λ (a : Sized _). map outline_of a.lookups) sized_lookups_of airs)),
      subst (λ hs. IsPlanFor lookups hs (plan_of c.in_ok-new.field-0)) heights c.in_ok-new.ensures,
      c.in_ok-new.field-0.facts,
    )

pub returns-in_err-new : goal.returns-in_err-new
returns-in_err-new g c =
    let airs = c.args.airs.now in
    let lookups = c.loop-air.lookups.items in
    let error = c.in_err-new.field-0.0 in
    let all = take_all c.loop-air.air-index airs (omega (arith, c.loop-air-test.false)) in
    let copies = c.loop-air.invariant.copies ∙ (ap (map (λ air. map outline_of (sized_lookups_of air).lookups)) all ∙ sym (map-map (λ (a : Sized _). map outline_of a.lookups) sized_lookups_of airs)) in
    let heights = c.loop-air.invariant.heights ∙ (ap (map (λ air. (sized_lookups_of air).rows)) all ∙ sym (map-map (λ (a : Sized _). a.rows) sized_lookups_of airs)) in
    let p = err_from_is_err_and c.from_residual-in_err-new.result c.from_residual-in_err-new.ensures.1 in
    rw (p.1, p.2) (elim c.in_err-new.ensures [
      | inl memory ↦ inl (ap of_batch memory)
      | inr refusal ↦ inr (lookups, copies, error, subst (λ hs. IsPlanRefusal g.F.PrimeCharacteristicRing.CHARACTERISTIC lookups hs error) heights refusal, refl)
    ])
