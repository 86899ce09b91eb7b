-- Constraints that hold make enforced weights kept, and so queries provided.
use Rattle.std.proofs.Common.{◌≡◌, ◌<◌, ℕ, suc, All, Bool, false, true, cond, None, Some, Option, List, [], ◌∷◌, length, map, refl, ap, ◌∙◌, arith}
use Rattle.std.specs.List.{AllByRecursion, AllZip, filter, range_with_len, zip}
use Rattle.std.specs.Option.{is_some}
use Rattle.air.specs.Traces.{height_of, window_of}
use Rattle.air_constraints.specs.Hold.{Hold, IsRowOf}
use Rattle.air_expressions.specs.Window.{Window}
use Rattle.air_expressions.specs.declared.base_expression.SymbolicExpression.{SymbolicExpression}
use Rattle.batch.specs.PlanFacts.{IsPlan}
use Rattle.batch.specs.Plans.{FitPlan, Plan, plan_batch}
use Rattle.batch.specs.Traces.{FitsAt, batch_over, instance_over}
use Rattle.batch.specs.declared.trace.BatchTrace.{BatchTrace}
use Rattle.batch_enforced.proofs.FlagLaws.{row_window}
use Rattle.batch_enforced.specs.Queries.{HaveEnforcedWeights, HasEnforcedWeights, ProvidesQueries, batch_queries, marked_queries, row_queries}
use Rattle.field.specs.Ring.{Ring}
use Rattle.list_laws.proofs.Each.{all_range}
use Rattle.list_laws.proofs.Images.{same_length}
use Rattle.lookup.specs.Lookups.{lookups_of}
use Rattle.lookup.specs.Weights.{HeightLaws, Role, RowKeepsWeights, TraceKeepsWeights}
use Rattle.lookup.specs.declared.lookups.Lookups.{Lookups}
use Rattle.lookup_enforced.specs.Enforced.{EnforcesWeight, sent_items}
use Rattle.lookup_model.specs.Batches.Instances.{Instance}
use Rattle.lookup_model.specs.Batches.Messages.{id_of}
use Rattle.lookup_model.specs.Sent.{chosen_branches, flags_at}
use Rattle.lookup_model.specs.Trace.{sent_row_under}
use Rattle.lookup_model.specs.declared.types.Lookup.{Lookup}

module _ {F : Type 0} (R : Ring F) (eq : F → F → Bool) where
  -- the branches whose flags are set, with these
  abbrev set_pairs : {X : Type 0} → List F → List X → List (F × X)
  set_pairs flags xs = filter (λ b. eq b.0 R.one) (zip flags xs)

  -- images of what is chosen are what is chosen of the images
  chosen_images : {X Y : Type 0} (f : X → Y) (flags : List F) (xs : List X) → map f (chosen_branches R eq flags xs) ≡ chosen_branches R eq flags (map f xs)
  chosen_images f [] xs = refl
  chosen_images f (g ∷ gs) [] = refl
  chosen_images {X} {Y} f (g ∷ gs) (x ∷ xs) = by_test (eq g R.one) (chosen_images f gs xs)
    where
      by_test : (t : Bool) → map f (map (λ b. b.1) (set_pairs gs xs)) ≡ map (λ b. b.1) (set_pairs gs (map f xs))
          → map f (map (λ (b : F × X). b.1) (cond t ((g, x) ∷ set_pairs gs xs) (set_pairs gs xs))) ≡ map (λ (b : F × Y). b.1) (cond t ((g, f x) ∷ set_pairs gs (map f xs)) (set_pairs gs (map f xs)))
      by_test true e = ap (λ ys. f x ∷ ys) e
      by_test false e = e

  sent_images : {X Y : Type 0} (f : X → Y) (flags : Option (List F)) (xs : List X) → map f (sent_items R eq flags xs) ≡ sent_items R eq flags (map f xs)
  sent_images f None xs = refl
  sent_images f (Some flags) xs = chosen_images f flags xs

  -- roles of the messages of a row, with which its lookups keep their weights
  record RowRoles (w : Window F) (id : Lookup F → ℕ) (lookups : List (Lookup F)) (queries : List (List Bool)) : Type 0 where
    pub roles : List (List Role)
    pub told : map (λ rs. map is_some rs) roles ≡ row_queries R eq w lookups queries
    pub kept : RowKeepsWeights R lookups (sent_row_under R eq id w lookups) roles

  row_roles : (height : ℕ) (constraints : List (SymbolicExpression F)) (w : Window F) → IsRowOf height w → Hold R w constraints → (id : Lookup F → ℕ) (lookups : List (Lookup F)) (queries : List (List Bool))
      → AllZip (EnforcesWeight R eq height constraints) lookups queries → RowRoles w id lookups queries
  row_roles height constraints w row hold id [] [] enforces = record { roles = []; told = refl; kept = tt }
  row_roles height constraints w row hold id (l ∷ ls) (q ∷ qs) enforces =
      let here = enforces.0 w row hold in
      let rest = row_roles height constraints w row hold id ls qs enforces.1 in
      let flags = flags_at R w l in
      let told : map is_some (sent_items R eq flags here.0) ≡ sent_items R eq flags q = sent_images is_some flags here.0 ∙ ap (sent_items R eq flags) here.1 in
      record {
        roles = sent_items R eq flags here.0 ∷ rest.roles;
        told = λ i. told i ∷ rest.told i;
        kept = (here.2 (id l), rest.kept);
      }
  row_roles height constraints w row hold id lookups queries enforces = absurd enforces

  -- roles of the messages of an AIR
  record TraceRoles (i : Instance F) (queries : List (List Bool)) (rows : List ℕ) : Type 0 where
    pub division : List (List (List Role))
    pub told : map (λ row. map (λ rs. map is_some rs) row) division ≡ map (λ r. row_queries R eq (window_of i.traces r) i.lookups queries) rows
    pub kept : AllZip (RowKeepsWeights R i.lookups) (map (λ r. sent_row_under R eq (id_of i.ids) (window_of i.traces r) i.lookups) rows) division

  trace_roles : (i : Instance F) (constraints : List (SymbolicExpression F)) (queries : List (List Bool)) → HasEnforcedWeights R eq i (constraints, queries)
      → (rows : List ℕ) → AllByRecursion (λ r. r < height_of i.traces) rows → TraceRoles i queries rows
  trace_roles i constraints queries weighed [] below = record { division = []; told = refl; kept = tt }
  trace_roles i constraints queries weighed (r ∷ rs) below =
      let here = row_roles (height_of i.traces) constraints (window_of i.traces r) (row_window i.traces r below.0) (weighed.hold r below.0) (id_of i.ids) i.lookups queries weighed.enforces in
      let rest = trace_roles i constraints queries weighed rs below.1 in
      record {
        division = here.roles ∷ rest.division;
        told = λ k. here.told k ∷ rest.told k;
        kept = (here.kept, rest.kept);
      }

  -- roles of the messages of a batch
  record BatchRoles (instances : List (Instance F)) (queries : List (List (List Bool))) : Type 0 where
    pub divisions : List (List (List (List Role)))
    pub told : marked_queries divisions ≡ batch_queries R eq instances queries
    pub kept : AllZip (TraceKeepsWeights R eq) instances divisions

  batch_roles : (constraints : List (List (SymbolicExpression F))) (queries : List (List (List Bool))) (instances : List (Instance F)) → HaveEnforcedWeights R eq constraints queries instances → BatchRoles instances queries
  batch_roles constraints queries [] weighed = record { divisions = []; told = refl; kept = tt }
  batch_roles (cs ∷ css) (q ∷ qs) (i ∷ is) weighed =
      let here = trace_roles i cs q weighed.0 (range_with_len 0 (height_of i.traces)) (all_range (λ r. r < height_of i.traces) 0 (height_of i.traces) (λ r lt. omega (arith, lt))) in
      let rest = batch_roles css qs is weighed.1 in
      record {
        divisions = here.division ∷ rest.divisions;
        told = λ k. here.told k ∷ rest.told k;
        kept = (here.kept, rest.kept);
      }
  batch_roles [] queries (i ∷ is) weighed = absurd weighed
  batch_roles (cs ∷ css) [] (i ∷ is) weighed = absurd weighed

  -- the lookups and heights of a plan's batch
  batch_lookups : (ids : List (List ℕ)) (airs : List (Lookups F)) (traces : List (BatchTrace F)) → length ids ≡ length airs → length traces ≡ length airs
      → map (λ i. i.lookups) (batch_over ids airs traces) ≡ map lookups_of airs
  batch_lookups [] [] [] same many = refl
  batch_lookups (id ∷ ids) (air ∷ airs) (t ∷ ts) same many = ap (λ ls. lookups_of air ∷ ls) (batch_lookups ids airs ts (omega (arith, same)) (omega (arith, many)))
  batch_lookups ids airs traces same many = absurd (omega arith)

  batch_heights : (ids : List (List ℕ)) (airs : List (Lookups F)) (traces : List (BatchTrace F)) (heights : List ℕ) → length ids ≡ length airs → length traces ≡ length airs → length heights ≡ length airs
      → All FitsAt (zip (batch_over ids airs traces) heights) → map (λ i. height_of i.traces) (batch_over ids airs traces) ≡ heights
  batch_heights [] [] [] [] same many high fit = refl
  batch_heights (id ∷ ids) (air ∷ airs) (t ∷ ts) (h ∷ hs) same many high fit =
      let here : height_of (instance_over (id, air) t).traces ≡ h = (fit 0 (instance_over (id, air) t, h) (omega arith)).0 in
      let rest = batch_heights ids airs ts hs (omega (arith, same)) (omega (arith, many)) (omega (arith, high)) (λ k d lt. fit (suc k) d (omega (arith, lt))) in
      λ k. here k ∷ rest k
  batch_heights ids airs traces heights same many high fit = absurd (omega arith)

  -- the batch of a plan provides its queries
  pub plan_provides : (p : ℕ) (plan : Plan F) → IsPlan p plan → HeightLaws R eq (map lookups_of plan.airs) plan.heights
      → (constraints : List (List (SymbolicExpression F))) (queries : List (List (List Bool))) (traces : List (BatchTrace F)) → FitPlan plan traces → HaveEnforcedWeights R eq constraints queries (plan_batch plan traces)
      → ProvidesQueries R eq (plan_batch plan traces) queries
  plan_provides p plan facts laws constraints queries traces fit weighed =
      let ids_are = same_length length (λ air. length (lookups_of air)) plan.ids plan.airs facts.lawful.as_many in
      let many : length traces ≡ length plan.airs = omega (arith, fit.as_many, facts.heights_are) in
      let batch = plan_batch plan traces in
      let found = batch_roles constraints queries batch weighed in
      record {
        divisions = found.divisions;
        told = found.told;
        kept = found.kept;
        provided = laws batch (batch_lookups plan.ids plan.airs traces ids_are many) (batch_heights plan.ids plan.airs traces plan.heights ids_are many facts.heights_are fit.fit);
      }
