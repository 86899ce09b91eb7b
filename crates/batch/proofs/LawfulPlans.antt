-- The ids of a plan are lawful.
use Rattle.std.proofs.Common.{◌≡◌, ◌↔◌, ◌<◌, ◌≤◌, ◌++◌, ◌∷◌, ℕ, List, [], All, get_or, length, refl, sym, ap, subst, arith}
use Rattle.std.proofs.lemmas.List.Elements.{All-from_recursion}
use Rattle.std.specs.List.{AllByRecursion, AllPairs, flat_map, zip}
use Rattle.list_laws.proofs.Each.{all_of_map, all_parts, all_weaker}
use Rattle.lookup_model.specs.Batches.Ids.{AreLawfulIds, HaveOneWidth, ShareBus, batch_lookups_with_ids}
use Rattle.lookup_model.specs.Batches.Instances.{Instance}
use Rattle.lookup_model.specs.LookupDegree.{greatest}
use Rattle.lookup_model.specs.Outline.{bus_of}
use Rattle.lookup_model.specs.declared.types.Lookup.{Lookup}
use Rattle.lookup.specs.Lookups.{lookups_of}
use Rattle.lookup.specs.declared.lookups.Lookups.{Lookups}
use Rattle.batch.proofs.GivenLaws.{below_next}
use Rattle.batch.proofs.Greatest.{each_below}
use Rattle.batch.proofs.OneWidths.{all_assigned}
use Rattle.batch.proofs.SharedBuses.{share, shared}
use Rattle.batch.specs.PlanFacts.{AreAssigned, AreNumbered, IsPlan, all_tuple_widths, lookups_with_ids, lookup_widths}
use Rattle.batch.specs.Plans.{Plan}
use Rattle.batch.specs.Traces.{batch_over}
use Rattle.batch.specs.declared.trace.BatchTrace.{BatchTrace}

module _ {F : Type 0} (most : ℕ) where
  -- no tuple of the lookup is wider
  abbrev IsNarrow : Lookup F → Type 0
  IsNarrow l = All (λ tuple. length tuple.items ≤ most) l.elements.items

  airs_narrow : (airs : List (Lookups F)) → greatest (all_tuple_widths airs) ≤ most → All (λ air. All IsNarrow (lookups_of air)) airs
  airs_narrow airs le =
      let Small = λ (n : ℕ). n ≤ most in
      All-from_recursion (λ air. All IsNarrow (lookups_of air)) airs
      (all_weaker (λ air. AllByRecursion Small (flat_map lookup_widths (lookups_of air))) (λ air. All IsNarrow (lookups_of air))
      (λ air is. All-from_recursion IsNarrow (lookups_of air) (all_weaker (λ (l : Lookup F). AllByRecursion Small (lookup_widths l)) IsNarrow
      (λ l narrow. All-from_recursion (λ tuple. length tuple.items ≤ most) l.elements.items (all_of_map Small (λ tuple. length tuple.items) l.elements.items narrow))
      (lookups_of air) (all_parts Small lookup_widths (lookups_of air) is)))
      airs (all_parts Small (λ air. flat_map lookup_widths (lookups_of air)) airs (each_below most (all_tuple_widths airs) le)))

-- the lookups of a batch over a plan, with their ids
pub identified_is : {F : Type 0} (ids : List (List ℕ)) (airs : List (Lookups F)) (traces : List (BatchTrace F)) → length ids ≡ length airs → length traces ≡ length airs → batch_lookups_with_ids (batch_over ids airs traces) ≡ lookups_with_ids ids airs
identified_is [] [] traces same as_many = refl
identified_is (i ∷ is) (air ∷ airs) (t ∷ ts) same as_many = ap (λ rest. zip i (lookups_of air) ++ rest) (identified_is is airs ts (omega (arith, same)) (omega (arith, as_many)))
identified_is ids airs traces same as_many = absurd (omega arith)

-- ids that are given in order are below their number, and shared by bus
pub numbered_assigned : {F : Type 0} (ids : List (List ℕ)) (airs : List (Lookups F)) (m : ℕ) → AreNumbered ids airs m → AreAssigned ids airs m
numbered_assigned ids airs m numbered = record {
  as_many = numbered.as_many;
  by_bus = record {
    buses = numbered.in_order.buses;
    below = λ k d lt. omega (arith, below_next (lookups_with_ids ids airs) k d lt, numbered.in_order.count);
  };
}

-- A plan's ids are lawful in every batch with its lookups and ids.
pub lawful_plan : {F : Type 0} (p : ℕ) (plan : Plan F) → IsPlan p plan → (batch : List (Instance F)) → batch_lookups_with_ids batch ≡ lookups_with_ids plan.ids plan.airs → AreLawfulIds plan.width plan.num_ids p batch
lawful_plan {F} p plan facts batch same =
    let all = lookups_with_ids plan.ids plan.airs in
    record {
      buses = subst (AllPairs (λ a b. (a.0 ≡ b.0) ↔ ShareBus a.1 b.1)) (sym same)
          (λ i j d before within.
          let each = facts.lawful.by_bus.buses i j d before within in
          let one = bus_of (get_or all i d).1.kind in
          let other = bus_of (get_or all j d).1.kind in
          (λ e. shared one other (each.0 e), λ (name, on, on_too). each.1 (share one other name on on_too)));
      below = subst (All (λ a. a.0 < plan.num_ids)) (sym same) facts.lawful.by_bus.below;
      few = facts.few;
      widths = subst (λ (xs : List (ℕ × Lookup F)). All (λ a. All (λ b. a.0 ≡ b.0 → HaveOneWidth a.1 b.1) xs) xs) (sym same) facts.widths;
      narrow = subst (All (λ a. IsNarrow plan.width a.1)) (sym same)
          (All-from_recursion (λ (a : ℕ × Lookup F). IsNarrow plan.width a.1) all (all_assigned (IsNarrow plan.width) plan.ids plan.airs (airs_narrow plan.width plan.airs (omega (arith, facts.width)))));
      positive = omega (arith, facts.width);
    }
