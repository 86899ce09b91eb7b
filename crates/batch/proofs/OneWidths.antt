-- One width for all tuples under an id.
use Rattle.std.proofs.Common.{◌≡◌, ◌∷◌, ℕ, true, inl, inr, List, Option, None, Some, All, get_or, length, map, refl, sym, ap, subst, ◌∙◌}
use Rattle.std.proofs.lemmas.List.Elements.{All-from_recursion, Contains-get_or, recursion_from_All}
use Rattle.std.specs.List.{AllByRecursion, filter_map, flat_map, zip}
use Rattle.air_expressions.specs.declared.base_expression.SymbolicExpression.{SymbolicExpression}
use Rattle.list_laws.proofs.Each.{All-of_map, all_here, all_joined, all_of_map, all_parts, all_weaker}
use Rattle.lookup_model.proofs.Counting.DistinctLists.{all_held}
use Rattle.lookup_model.proofs.Lookups.Regrouping.{Holds, first_seen_holds}
use Rattle.lookup_model.proofs.Names.{same_name-Decides}
use Rattle.lookup_model.specs.Batches.Ids.{HaveOneWidth}
use Rattle.lookup_model.specs.Names.{is_named, same_name}
use Rattle.lookup_model.specs.Outline.{Outline, bus_of, fields_of}
use Rattle.lookup_model.specs.declared.types.Lookup.{Lookup}
use Rattle.lookup.specs.BusWidths.{widths_of}
use Rattle.lookup.specs.Buses.{bus_names, on_bus}
use Rattle.lookup.specs.Lookups.{lookups_of}
use Rattle.lookup.specs.NamedWidths.{AgreeOnWidths, first_width, named_widths}
use Rattle.lookup.specs.declared.lookups.Lookups.{Lookups}
use Rattle.batch.proofs.Members.{of_found, of_kept}
use Rattle.batch.proofs.SharedBuses.{Entry, one_or_shared}
use Rattle.batch.specs.Checks.{AreLocallyEven, IsLocallyEven, bus_widths_of}
use Rattle.batch.specs.Order.{bus_of_numbered}
use Rattle.batch.specs.PlanFacts.{AreAssigned, lookups_with_ids}

module _ {F : Type 0} where
  -- what holds of the widths on the buses of an AIR holds of those of each lookup on a bus
  widths_on_bus : (P : List ℕ × ℕ → Type 0) (os : List (Outline (SymbolicExpression F))) → AllByRecursion P (named_widths os)
      → All (λ o. (name : List ℕ) → o.bus ≡ Some name → AllByRecursion (λ w. P (name, w)) (widths_of o)) os
  widths_on_bus P os all k d lt name on =
      let OnBus = λ (n : List ℕ). AllByRecursion (λ o. AllByRecursion (λ w. P (n, w)) (widths_of o)) (on_bus n os) in
      let held = all_here (λ o. (n : List ℕ) → o.bus ≡ Some n → Holds same_name (bus_names os) n) os k d lt (of_found (Holds same_name (bus_names os)) (λ o. o.bus) os (first_seen_holds same_name same_name-Decides (filter_map (λ o. o.bus) os))) in
      let groups = all_of_map (λ g. AllByRecursion P (map (λ w. (g.0, w)) (flat_map widths_of g.1))) (λ n. (n, on_bus n os)) (bus_names os) (all_parts P (λ g. map (λ w. (g.0, w)) (flat_map widths_of g.1)) _ all) in
      let here = all_held same_name same_name-Decides OnBus (bus_names os) name
      (all_weaker _ OnBus (λ n is. all_parts (λ w. P (n, w)) widths_of (on_bus n os) (all_of_map P (λ w. (n, w)) (flat_map widths_of (on_bus n os)) is)) (bus_names os) groups) (held name on) in
      all_here (λ o. is_named name o.bus ≡ true → AllByRecursion (λ w. P (name, w)) (widths_of o)) os k d lt (of_kept (λ o. AllByRecursion (λ w. P (name, w)) (widths_of o)) (λ o. is_named name o.bus) os here)
      (ap (is_named name) on ∙ (same_name-Decides name name).1 refl)

  -- the tuples of a lookup have this width on their bus
  abbrev IsOnWidth : List (List ℕ × ℕ) → Lookup F → Type 0
  IsOnWidth widths l = (name : List ℕ) → bus_of l.kind ≡ Some name → All (λ tuple. first_width widths name ≡ Some (length tuple.items)) l.elements.items

  -- where all widths on buses agree, so it is of all lookups
  on_widths : (widths : List (List ℕ × ℕ)) (airs : List (Lookups F)) → AllByRecursion (λ w. first_width widths w.0 ≡ Some w.1) (bus_widths_of airs) → All (λ air. All (IsOnWidth widths) (lookups_of air)) airs
  on_widths widths airs all =
      let Agrees = λ (w : List ℕ × ℕ). first_width widths w.0 ≡ Some w.1 in
      let outlines = λ (air : Lookups F). map fields_of (lookups_of air) in
      All-from_recursion (λ air. All (IsOnWidth widths) (lookups_of air)) airs
      (all_weaker (λ air. AllByRecursion Agrees (named_widths (outlines air))) (λ air. All (IsOnWidth widths) (lookups_of air))
      (λ air is k d lt name on.
      let here = All-of_map (λ o. (n : List ℕ) → o.bus ≡ Some n → AllByRecursion (λ w. Agrees (n, w)) (widths_of o)) fields_of (lookups_of air) (widths_on_bus Agrees (outlines air) is) k d lt name on in
      let tuples = (get_or (lookups_of air) k d).elements.items in
      All-from_recursion (λ tuple. Agrees (name, length tuple.items)) tuples
      (all_of_map (λ items. Agrees (name, length items)) (λ tuple. tuple.items) tuples (all_of_map (λ w. Agrees (name, w)) length (map (λ tuple. tuple.items) tuples) here)))
      airs (all_of_map (λ os. AllByRecursion Agrees (named_widths os)) outlines airs (all_parts Agrees named_widths (map outlines airs) all)))

  -- what holds of all lookups of all AIRs holds of them with their ids
  pub all_assigned : (P : Lookup F → Type 0) (ids : List (List ℕ)) (airs : List (Lookups F)) → All (λ air. All P (lookups_of air)) airs → AllByRecursion (λ a. P a.1) (lookups_with_ids ids airs)
  all_assigned P ids airs all =
      let OfAir = λ (air : Lookups F). All P (lookups_of air) in
      all_joined (λ a. P a.1) (λ p. zip p.0 (lookups_of p.1)) (zip ids airs)
      (all_weaker (λ p. OfAir p.1) (λ p. AllByRecursion (λ a. P a.1) (zip p.0 (lookups_of p.1))) (λ p is. zipped P p.0 (lookups_of p.1) (recursion_from_All P (lookups_of p.1) is))
      (zip ids airs) (zipped OfAir ids airs (recursion_from_All OfAir airs all)))
    where
      zipped : {A B : Type 0} (Q : B → Type 0) (xs : List A) (ys : List B) → AllByRecursion Q ys → AllByRecursion (λ p. Q p.1) (zip xs ys)
      zipped Q (x ∷ xs) (y ∷ ys) each = (each.0, zipped Q xs ys each.1)
      zipped Q xs ys each = tt

  -- Where the widths on buses agree, and those of each local lookup, all tuples under one id have the
  -- same width.
  pub one_widths : (ids : List (List ℕ)) (airs : List (Lookups F)) (m : ℕ) → AreAssigned ids airs m → AgreeOnWidths (bus_widths_of airs) → AreLocallyEven airs
      → All (λ a. All (λ b. a.0 ≡ b.0 → HaveOneWidth a.1 b.1) (lookups_with_ids ids airs)) (lookups_with_ids ids airs)
  one_widths ids airs m lawful agree even k d lt j e within same =
      let a = get_or all k d in
      let b = get_or all j e in
      elim (one_or_shared all lawful.by_bus.buses a b (Contains-get_or all k d lt) (Contains-get_or all j e within) same) [
        | inl one ↦ subst (λ (c : Entry F). HaveOneWidth a.1 c.1) one (itself a (wide k d lt) (local k d lt) (bus_of_numbered a) refl)
        | inr (name, of_a, of_b) ↦ on_one a.1 b.1 name (wide k d lt name of_a) (wide j e within name of_b)
      ]
    where
      all : List (Entry F)
      all = lookups_with_ids ids airs

      widths : List (List ℕ × ℕ)
      widths = bus_widths_of airs

      wide : All (λ a. IsOnWidth widths a.1) all
      wide = All-from_recursion (λ a. IsOnWidth widths a.1) all (all_assigned (IsOnWidth widths) ids airs (on_widths widths airs agree))

      local : All (λ a. IsLocallyEven a.1) all
      local = All-from_recursion (λ a. IsLocallyEven a.1) all (all_assigned IsLocallyEven ids airs even)

      on_one : (a b : Lookup F) (name : List ℕ) → All (λ tuple. first_width widths name ≡ Some (length tuple.items)) a.elements.items → All (λ tuple. first_width widths name ≡ Some (length tuple.items)) b.elements.items → HaveOneWidth a b
      on_one a b name of_a of_b i d lt j e within = cc (sym (of_a i d lt) ∙ of_b j e within)

      itself : (a : Entry F) → IsOnWidth widths a.1 → IsLocallyEven a.1 → (o : Option (List ℕ)) → bus_of_numbered a ≡ o → HaveOneWidth a.1 a.1
      itself a on even None is = let (width, each) = even is in λ i d lt j e within. each i d lt ∙ sym (each j e within)
      itself a on even (Some name) is = on_one a.1 a.1 name (on name is) (on name is)
