-- The batch of a plan whose constraints enforce all flags, over traces on which they hold.
use Rattle.std.proofs.Common.{◌≡◌, ℕ, suc, Bool, All, List, [], ◌∷◌, length, subst, sym, arith}
use Rattle.std.specs.List.{zip}
use Rattle.air.specs.Traces.{height_of}
use Rattle.air_expressions.specs.declared.base_expression.SymbolicExpression.{SymbolicExpression}
use Rattle.batch.specs.PlanFacts.{IsPlan}
use Rattle.batch.specs.Plans.{FitPlan, Plan, plan_batch}
use Rattle.batch.specs.Traces.{FitsAt, batch_over, instance_over}
use Rattle.batch.specs.declared.trace.BatchTrace.{BatchTrace}
use Rattle.batch_enforced.specs.Constrained.{AreConstrained, EnforcesAllFlags, HoldOnBatch}
use Rattle.batch_enforced.specs.EnforcedPlans.{HaveEnforcedFlags}
use Rattle.field.specs.Ring.{Ring}
use Rattle.list_laws.proofs.Images.{same_length}
use Rattle.lookup.specs.Lookups.{lookups_of}
use Rattle.lookup.specs.declared.lookups.Lookups.{Lookups}

module _ {F : Type 0} (R : Ring F) (eq : F → F → Bool) where
  -- AIR by AIR
  all_constrained : (ids : List (List ℕ)) (airs : List (Lookups F)) (traces : List (BatchTrace F)) (heights : List ℕ) (constraints : List (List (SymbolicExpression F)))
      → length ids ≡ length airs → length traces ≡ length airs → length heights ≡ length airs → HaveEnforcedFlags R eq constraints airs heights
      → All FitsAt (zip (batch_over ids airs traces) heights) → HoldOnBatch R constraints (batch_over ids airs traces) → AreConstrained R eq constraints (batch_over ids airs traces)
  all_constrained [] [] [] [] [] same many high enforced fit hold = tt
  all_constrained [] [] [] [] (cs ∷ css) same many high enforced fit hold = absurd hold
  all_constrained (id ∷ ids) (air ∷ airs) (t ∷ ts) (h ∷ hs) [] same many high enforced fit hold = absurd hold
  all_constrained (id ∷ ids) (air ∷ airs) (t ∷ ts) (h ∷ hs) (cs ∷ css) same many high enforced fit hold =
      let here : height_of (instance_over (id, air) t).traces ≡ h = (fit 0 (instance_over (id, air) t, h) (omega arith)).0 in (
        record {
          enforces = subst (λ (n : ℕ). EnforcesAllFlags R eq n cs (lookups_of air)) (sym here) (enforced 0 (cs, (air, h)) (omega arith));
          hold = hold.0;
        },
        all_constrained ids airs ts hs css (omega (arith, same)) (omega (arith, many)) (omega (arith, high)) (λ k d lt. enforced (suc k) d (omega (arith, lt))) (λ k d lt. fit (suc k) d (omega (arith, lt))) hold.1,
      )
  all_constrained ids airs traces heights constraints same many high enforced fit hold = absurd (omega arith)

  -- the batch of a plan
  pub plan_constrained : (p : ℕ) (plan : Plan F) (constraints : List (List (SymbolicExpression F))) → IsPlan p plan → HaveEnforcedFlags R eq constraints plan.airs plan.heights
      → (traces : List (BatchTrace F)) → FitPlan plan traces → HoldOnBatch R constraints (plan_batch plan traces) → AreConstrained R eq constraints (plan_batch plan traces)
  plan_constrained p plan constraints facts enforced traces fit hold =
      all_constrained plan.ids plan.airs traces plan.heights constraints (same_length length (λ air. length (lookups_of air)) plan.ids plan.airs facts.lawful.as_many)
      (omega (arith, fit.as_many, facts.heights_are)) facts.heights_are enforced fit.fit hold
