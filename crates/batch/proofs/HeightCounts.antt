-- The most messages of a plan, AIR by AIR, and of its batch over traces that fit.
use Rattle.std.proofs.Common.{◌≡◌, ◌<◌, ◌+◌, ◌*◌, ◌∷◌, ℕ, suc, List, [], All, get_or, length, take, refl, sym, ap, ◌∙◌, arith}
use Rattle.std.proofs.lemmas.List.Sums.{sum_by-cons, sum_by_more}
use Rattle.std.proofs.lemmas.Slice.Zip.{get_or-zip, length-zip}
use Rattle.std.specs.List.{sum_by, zip}
use Rattle.air.specs.Traces.{height_of}
use Rattle.lookup_model.specs.Batches.Linear.{most_messages, most_of, most_of_row}
use Rattle.lookup.specs.Lookups.{lookups_of}
use Rattle.lookup.specs.declared.lookups.Lookups.{Lookups}
use Rattle.batch.specs.Heights.{most_planned}
use Rattle.batch.specs.PlanFacts.{IsPlan}
use Rattle.batch.specs.Plans.{FitPlan, Plan, plan_batch}
use Rattle.batch.specs.Traces.{FitsAt, batch_over, instance_over}
use Rattle.batch.specs.declared.trace.BatchTrace.{BatchTrace}
use Rattle.batch.proofs.PlanCalls.{ids_for_airs}

module _ {F : Type 0} where
  -- the most messages of an AIR at a height
  abbrev pub most_of_air : Lookups F × ℕ → ℕ
  most_of_air t = t.1 * most_of_row (lookups_of t.0)

  -- one more AIR
  pub most_more : (airs : List (Lookups F)) (heights : List ℕ) (i : ℕ) (air : Lookups F) (height : ℕ) → length heights ≡ length airs → i < length airs
      → air ≡ get_or airs i air → height ≡ get_or heights i 0
      → sum_by most_of_air (take (i + 1) (zip airs heights)) ≡ sum_by most_of_air (take i (zip airs heights)) + height * most_of_row (lookups_of air)
  most_more airs heights i air height same lt air_is height_is =
      sum_by_more most_of_air (zip airs heights) i (air, 0) (omega (arith, length-zip airs heights, lt, same))
      ∙ ap (λ t. sum_by most_of_air (take i (zip airs heights)) + most_of_air t) (get_or-zip airs heights i (air, 0) lt (omega (arith, lt, same)) ∙ (λ j. (sym air_is j, sym height_is j)))

  -- the batch has the most messages of its lookups and heights
  batch_most : (ids : List (List ℕ)) (airs : List (Lookups F)) (traces : List (BatchTrace F)) (heights : List ℕ) → length ids ≡ length airs → length traces ≡ length airs → length heights ≡ length airs
      → All FitsAt (zip (batch_over ids airs traces) heights) → most_messages (batch_over ids airs traces) ≡ most_planned airs heights
  batch_most [] [] [] [] same many high fit = refl
  batch_most (id ∷ ids) (air ∷ airs) (t ∷ ts) (h ∷ hs) same many high fit =
      let here : height_of (instance_over (id, air) t).traces ≡ h = (fit 0 (instance_over (id, air) t, h) (omega arith)).0 in
      let rest : most_messages (batch_over ids airs ts) ≡ most_planned airs hs =
      batch_most ids airs ts hs (omega (arith, same)) (omega (arith, many)) (omega (arith, high)) (λ k d lt. fit (suc k) d (omega (arith, lt))) in
      sum_by-cons most_of (instance_over (id, air) t) (batch_over ids airs ts)
      ∙ (λ j. here j * most_of_row (lookups_of air) + rest j)
      ∙ sym (sum_by-cons most_of_air (air, h) (zip airs hs))
  batch_most ids airs traces heights same many high fit = absurd (omega arith)

  pub most_of_batch : (p : ℕ) (plan : Plan F) → IsPlan p plan → (traces : List (BatchTrace F)) → FitPlan plan traces → most_messages (plan_batch plan traces) ≡ most_planned plan.airs plan.heights
  most_of_batch p plan facts traces fit =
      batch_most plan.ids plan.airs traces plan.heights (ids_for_airs p plan facts) (omega (arith, fit.as_many, facts.heights_are)) facts.heights_are fit.fit
