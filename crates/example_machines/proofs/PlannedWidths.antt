-- Tuples of one value have one width, so no check of widths refuses them.
use Rattle.std.proofs.Common.{◌≡◌, ◌≤◌, ◌++◌, ℕ, List, [], ◌∷◌, Some, All, length, map, sym, subst, arith, ◌∙◌}
use Rattle.std.proofs.lemmas.List.Elements.{All-filter, All-map, recursion_from_All}
use Rattle.std.specs.List.{AllByRecursion, flat_map}
use Rattle.list_laws.proofs.Each.{all_front, all_back, All-there, All-parts}
use Rattle.lookup_model.specs.LookupDegree.{greatest}
use Rattle.lookup_model.specs.Outline.{Outline, fields_of}
use Rattle.lookup_model.specs.declared.error.LookupError.{LookupError}
use Rattle.lookup.specs.BusWidths.{widths_of}
use Rattle.lookup.specs.Buses.{bus_names, bus_groups, on_bus}
use Rattle.lookup_model.specs.Names.{is_named}
use Rattle.lookup.specs.Lookups.{lookups_of}
use Rattle.lookup.specs.NamedWidths.{IsFirstWidthMismatch, first_width, named_widths}
use Rattle.lookup.specs.declared.lookups.Lookups.{Lookups}
use Rattle.batch.specs.Checks.{IsFirstLocalMismatch, bus_widths_of}
use Rattle.batch.specs.PlanFacts.{lookup_widths, message_width, all_tuple_widths}

-- a width with its name is 1
abbrev IsOne : List ℕ × ℕ → Type 0
IsOne w = w.1 ≡ 1

-- so is the first one under a name
found_one : (name : List ℕ) (ws : List (List ℕ × ℕ)) (v : ℕ) → AllByRecursion IsOne ws → first_width ws name ≡ Some v → v ≡ 1
found_one name [] v all found = absurd (cc found)
found_one name (w ∷ ws) v all found = grind (arith, found, all.0, found_one name ws v all.1)

module _ {E : Type 0} where
  -- the tuples of a lookup have one value
  abbrev HasOnes : Outline E → Type 0
  HasOnes o = All (λ tuple. length tuple ≡ 1) o.elements

  -- their widths are 1, under each name
  named_ones : (os : List (Outline E)) → All HasOnes os → All IsOne (named_widths os)
  named_ones os all =
      All-parts IsOne (λ g. map (λ w. (g.0, w)) (flat_map widths_of g.1)) (bus_groups os)
      (All-map (λ g. All IsOne (map (λ w. (g.0, w)) (flat_map widths_of g.1))) (λ name. (name, on_bus name os)) (bus_names os) (λ n d lt. under_name _))
    where
      under_name : (name : List ℕ) → All IsOne (map (λ w. (name, w)) (flat_map widths_of (on_bus name os)))
      under_name name =
          All-map IsOne (λ w. (name, w)) (flat_map widths_of (on_bus name os))
          (All-parts (λ w. w ≡ 1) widths_of (on_bus name os)
          (λ n d lt. All-map (λ w. w ≡ 1) length _ (All-filter (λ o. is_named name o.bus) HasOnes os all n d lt)))

module _ {F : Type 0} where
  -- so it is of all lookups of an AIR
  abbrev pub AreOnes : Lookups F → Type 0
  AreOnes air = All (λ l. All (λ tuple. length tuple.items ≡ 1) l.elements.items) (lookups_of air)

  module _ (airs : List (Lookups F)) (ones : All AreOnes airs) (e : LookupError) where
    widths_are_ones : All IsOne (bus_widths_of airs)
    widths_are_ones =
        All-parts IsOne named_widths (map (λ air. map fields_of (lookups_of air)) airs)
        (All-map (λ os. All IsOne (named_widths os)) (λ air. map fields_of (lookups_of air)) airs
        (λ n d lt. named_ones (map fields_of _) (All-map HasOnes fields_of _ (λ m l le. All-map (λ tuple. length tuple ≡ 1) (λ tuple. tuple.items) _ (ones n d lt m l le)))))

    -- no width on a bus differs
    pub no_bus_mismatch : ¬ IsFirstWidthMismatch (bus_widths_of airs) e
    no_bus_mismatch first =
        let rest : List (List ℕ × ℕ) = first.item ∷ first.after in
        let all : AllByRecursion IsOne (first.before ++ rest) = recursion_from_All IsOne (first.before ++ rest) (subst (All IsOne) first.split widths_are_ones) in
        let expected : first.fault.expected ≡ 1 = found_one first.item.0 first.before first.fault.expected (all_front IsOne first.before rest all) first.fault.first in
        let actual : first.item.1 ≡ 1 = (all_back IsOne first.before rest all).0 in
        first.fault.differs (actual ∙ sym expected)

    -- and none of a local lookup
    pub no_local_mismatch : ¬ IsFirstLocalMismatch airs e
    no_local_mismatch first =
        let inner = first.fault in
        let tuples = All-there (λ l. All (λ tuple. length tuple.items ≡ 1) l.elements.items) (lookups_of first.item) inner.index inner.item (All-there AreOnes airs first.index first.item ones first.is_there) inner.is_there in
        let widths : All (λ w. w ≡ 1) (lookup_widths inner.item) = All-map (λ w. w ≡ 1) (λ tuple. length tuple.items) inner.item.elements.items tuples in
        let differ = inner.fault.uneven.differ in
        let width : inner.fault.uneven.width ≡ 1 = All-there (λ w. w ≡ 1) (lookup_widths inner.item) 0 inner.fault.uneven.width widths differ.first in
        let other : inner.fault.uneven.other ≡ 1 = All-there (λ w. w ≡ 1) (lookup_widths inner.item) differ.index inner.fault.uneven.other widths differ.found in
        differ.differs (other ∙ sym width)

-- the greatest of some ones is at most 1
ones_below : (ws : List ℕ) → AllByRecursion (λ w. w ≡ 1) ws → greatest ws ≤ 1
ones_below [] all = omega arith
ones_below (w ∷ ws) all = omega (arith, all.0, ones_below ws all.1)

-- so the table is made for tuples of one value
pub width_is_one : {F : Type 0} (airs : List (Lookups F)) → All AreOnes airs → message_width airs ≡ 1
width_is_one airs ones =
    let all : All (λ w. w ≡ 1) (all_tuple_widths airs) =
    All-parts (λ w. w ≡ 1) (λ air. flat_map lookup_widths (lookups_of air)) airs
    (λ n d lt. All-parts (λ w. w ≡ 1) lookup_widths _ (λ m l le. All-map (λ w. w ≡ 1) (λ tuple. length tuple.items) _ (ones n d lt m l le))) in
    omega (arith, ones_below (all_tuple_widths airs) (recursion_from_All (λ w. w ≡ 1) (all_tuple_widths airs) all))
