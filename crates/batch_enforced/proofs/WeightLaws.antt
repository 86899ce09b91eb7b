-- The batch of a plan whose constraints enforce all weights, over traces on which they hold.
use Rattle.std.proofs.Common.{◌≡◌, ◌<◌, ◌≤◌, ℕ, zero, suc, refl, Bool, All, Some, List, [], ◌∷◌, get_or, length, slice_get, subst, sym, arith}
use Rattle.std.proofs.lemmas.List.{get_or_default, length-map}
use Rattle.std.proofs.lemmas.Option.{get_or_from_slice_get}
use Rattle.std.proofs.lemmas.Slice.Zip.{length-zip}
use Rattle.std.specs.List.{AllZip, zip}
use Rattle.std.specs.declared.alloc.Global.{Global}
use Rattle.std.specs.declared.vec.Vec.{Vec}
use Rattle.air.specs.Traces.{height_of}
use Rattle.air_expressions.specs.declared.base_expression.SymbolicExpression.{SymbolicExpression}
use Rattle.batch.specs.PlanFacts.{IsPlan}
use Rattle.batch.specs.Plans.{FitPlan, Plan, plan_batch}
use Rattle.batch.specs.Traces.{FitsAt, batch_over, instance_over}
use Rattle.batch.specs.declared.trace.BatchTrace.{BatchTrace}
use Rattle.batch_enforced.proofs.AirLaws.{air_there, length_airs}
use Rattle.batch_enforced.specs.Constrained.{HoldOnBatch}
use Rattle.batch_enforced.specs.EnforcedPlans.{constrained_airs, constraints_of}
use Rattle.batch_enforced.specs.Queries.{HaveEnforcedWeights}
use Rattle.batch_enforced.specs.Weights.{EnforceAllWeights, queried_airs, queries_of, query_lists}
use Rattle.field.specs.Ring.{Ring}
use Rattle.list_laws.proofs.Images.{mapped_at, same_length}
use Rattle.list_laws.proofs.Items.{HoldsBelow}
use Rattle.list_laws.proofs.Zips.{pair_at}
use Rattle.lookup.specs.Lookups.{lookups_of}
use Rattle.lookup.specs.declared.lookups.Lookups.{Lookups}
use Rattle.lookup_enforced.specs.Enforced.{EnforcesWeight}
use Rattle.lookup_model.specs.declared.types.Lookup.{Lookup}

-- what holds of each pair of a zip, as far as it reaches, holds place by place
pub zip_held : {A B : Type 0} (P : A → B → Type 0) (xs : List A) (ys : List B) (n : ℕ) → length ys ≡ length xs → HoldsBelow (λ t. P t.0 t.1) (zip xs ys) n → length xs ≤ n → AllZip P xs ys
zip_held P [] [] n same below le = tt
zip_held P [] (y ∷ ys) n same below le = absurd (omega (arith, same))
zip_held P (x ∷ xs) [] n same below le = absurd (omega (arith, same))
zip_held P (x ∷ xs) (y ∷ ys) zero same below le = absurd (omega (arith, le))
zip_held P (x ∷ xs) (y ∷ ys) (suc n) same below le =
    (below 0 (x, y) (omega arith) refl, zip_held P xs ys n (omega (arith, same)) (λ k t lt is. below (suc k) t (omega (arith, lt)) is) (omega (arith, le)))

module _ {F : Type 0} (R : Ring F) (eq : F → F → Bool) where
  -- AIR by AIR
  all_weighed : (ids : List (List ℕ)) (airs : List (Lookups F)) (traces : List (BatchTrace F)) (heights : List ℕ) (constraints : List (List (SymbolicExpression F))) (queries : List (List (List Bool)))
      → length ids ≡ length airs → length traces ≡ length airs → length heights ≡ length airs → length queries ≡ length airs → EnforceAllWeights R eq queries constraints airs heights
      → All FitsAt (zip (batch_over ids airs traces) heights) → HoldOnBatch R constraints (batch_over ids airs traces) → HaveEnforcedWeights R eq constraints queries (batch_over ids airs traces)
  all_weighed [] [] [] [] [] [] same many high asked enforced fit hold = tt
  all_weighed [] [] [] [] (cs ∷ css) [] same many high asked enforced fit hold = absurd hold
  all_weighed (id ∷ ids) (air ∷ airs) (t ∷ ts) (h ∷ hs) [] (q ∷ qs) same many high asked enforced fit hold = absurd hold
  all_weighed (id ∷ ids) (air ∷ airs) (t ∷ ts) (h ∷ hs) (cs ∷ css) (q ∷ qs) same many high asked enforced fit hold =
      let here : height_of (instance_over (id, air) t).traces ≡ h = (fit 0 (instance_over (id, air) t, h) (omega arith)).0 in (
        record {
          enforces = subst (λ (n : ℕ). AllZip (EnforcesWeight R eq n cs) (lookups_of air) q) (sym here) (enforced 0 (q, (cs, (air, h))) (omega arith));
          hold = hold.0;
        },
        all_weighed ids airs ts hs css qs (omega (arith, same)) (omega (arith, many)) (omega (arith, high)) (omega (arith, asked)) (λ k d lt. enforced (suc k) d (omega (arith, lt))) (λ k d lt. fit (suc k) d (omega (arith, lt))) hold.1,
      )
  all_weighed ids airs traces heights constraints queries same many high asked enforced fit hold = absurd (omega arith)

  -- the batch of a plan
  pub plan_weighed : (p : ℕ) (plan : Plan F) (constraints : List (List (SymbolicExpression F))) (queries : List (List (List Bool))) → IsPlan p plan → length queries ≡ length plan.airs
      → EnforceAllWeights R eq queries constraints plan.airs plan.heights
      → (traces : List (BatchTrace F)) → FitPlan plan traces → HoldOnBatch R constraints (plan_batch plan traces) → HaveEnforcedWeights R eq constraints queries (plan_batch plan traces)
  plan_weighed p plan constraints queries facts asked enforced traces fit hold =
      all_weighed plan.ids plan.airs traces plan.heights constraints queries (same_length length (λ air. length (lookups_of air)) plan.ids plan.airs facts.lawful.as_many)
      (omega (arith, fit.as_many, facts.heights_are)) facts.heights_are asked enforced fit.fit hold

-- an item that is there is the one at its index
there_is : {A : Type 0} (xs : List A) (i : ℕ) (x : A) → slice_get xs i ≡ Some x → x ≡ get_or xs i x
there_is xs i x there = sym (get_or_from_slice_get xs i x x there)

module _ {F : Type 0} (queries : List (Vec (Vec Bool Global) Global)) (constraints : List (Vec (SymbolicExpression F) Global)) (airs : List (Lookups F)) (heights : List ℕ)
    (high : length heights ≡ length airs) (many : length constraints ≡ length airs) (asked : length queries ≡ length airs) where
  -- there is one entry for each AIR
  pub length_queried : length (queried_airs (queries_of queries) (constraints_of constraints) airs heights) ≡ length airs
  length_queried =
      omega (arith, asked, length_airs constraints airs heights high many, length-map queries (λ lists. query_lists lists.items), length-zip (queries_of queries) (constrained_airs (constraints_of constraints) airs heights))

  -- that of an AIR
  pub queried_there : (i : ℕ) (lists : Vec (Vec Bool Global) Global) (list : Vec (SymbolicExpression F) Global) (air : Lookups F) → i < length airs → lists ≡ get_or queries i lists → list ≡ get_or constraints i list → air ≡ get_or airs i air
      → slice_get (queried_airs (queries_of queries) (constraints_of constraints) airs heights) i ≡ Some (query_lists lists.items, (list.items, (air, get_or heights i 0)))
  queried_there i lists list air lt lists_is list_is air_is =
      let rest : List (SymbolicExpression F) × (Lookups F × ℕ) = (list.items, (air, get_or heights i 0)) in
      let others = constrained_airs (constraints_of constraints) airs heights in
      let below : i < length others = omega (arith, lt, length_airs constraints airs heights high many) in
      pair_at (queries_of queries) others i (query_lists lists.items) rest (omega (arith, lt, asked, length-map queries (λ l. query_lists l.items))) below
      (mapped_at (λ l. query_lists l.items) queries i lists (omega (arith, lt, asked)) lists_is)
      (there_is others i rest (air_there constraints airs heights high many i list air lt list_is air_is))

-- what holds of three values holds of others that are the same
pub along : {A B C : Type 0} (P : A → B → C → Type 0) (a a2 : A) (b b2 : B) (c c2 : C) → a ≡ a2 → b ≡ b2 → c ≡ c2 → P a b c → P a2 b2 c2
along {A} {B} {C} P a a2 b b2 c c2 same_a same_b same_c p =
    subst (λ (x : A). P x b2 c2) same_a (subst (λ (y : B). P a y c2) same_b (subst (λ (z : C). P a b z) same_c p))
