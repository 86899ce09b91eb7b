-- Groups of lookups by bus, beside the entries of a map: one more lookup.
use Rattle.std.proofs.Common.{◌≡◌, ◌+◌, ℕ, zero, suc, Bool, false, cond, is_some, List, [], ◌∷◌, ◌++◌, Option, None, Some, map, nat_lt, not, position, slice_get, refl, sym, ap, subst, ◌∙◌, arith}
use Rattle.std.proofs.lemmas.List.{length-map}
use Rattle.std.specs.List.{AllZip, prefix_len}
use Rattle.std.specs.Map.{keys_of, lookup, values_of}
use Rattle.std.specs.Option.{option_map_or}
use Rattle.std.specs.String.{string_bytes}
use Rattle.std.specs.declared.alloc.Global.{Global}
use Rattle.std.specs.declared.string.String.{String}
use Rattle.indexmap.proofs.MapLemmas.{Found, Found-position, insert_entry-first}
use Rattle.indexmap.specs.IndexMap.{insert_entry, set_value_at}
use Rattle.list_laws.proofs.Images.{map-map}
use Rattle.list_laws.proofs.Zips.{AllZip-images, AllZip-same_map, AllZip-weaker}
use Rattle.lookup_model.specs.Names.{same_name}
use Rattle.lookup_model.specs.Outline.{Outline}
use Rattle.lookup.proofs.GroupLaws.{groups-lookup, groups-push}
use Rattle.lookup.specs.Buses.{bus_groups, on_bus}

-- the index of the first item that passes, among items that are seen through a view
prefix_len-map : {A B : Type 0} (see : A → B) (p : B → Bool) (xs : List A) → prefix_len p (map see xs) ≡ prefix_len (λ x. p (see x)) xs
prefix_len-map see p [] = refl
prefix_len-map see p (x ∷ xs) = ap (λ n. cond (p (see x)) (1 + n) 0) (prefix_len-map see p xs)

position-map : {A B : Type 0} (see : A → B) (p : B → Bool) (xs : List A) → position p (map see xs) ≡ position (λ x. p (see x)) xs
position-map see p xs =
    let at = prefix_len-map see (λ y. not (p y)) xs in
    λ i. cond (nat_lt (at i) (length-map xs see i)) (Some (at i)) None

module _ {E V : Type 0} (Holds : List (Outline E) → V → Type 0) where
  -- a group, and the entry of a map for it
  abbrev pub IsEntry : List ℕ × List (Outline E) → String Global × V → Type 0
  IsEntry group entry = (string_bytes entry.0 ≡ group.0) × Holds group.1 entry.1

  -- the values of a map, and the groups without their names
  pub values_hold : (gs : List (List ℕ × List (Outline E))) (es : List (String Global × V)) → AllZip IsEntry gs es → AllZip Holds (map (λ g. g.1) gs) (values_of es)
  values_hold gs es h = AllZip-images Holds (λ g. g.1) (λ e. e.1) gs es (AllZip-weaker IsEntry (λ g e. Holds g.1 e.1) (λ g e is. is.1) gs es h)

  names_are : (gs : List (List ℕ × List (Outline E))) (es : List (String Global × V)) → AllZip IsEntry gs es → keys_of gs ≡ map string_bytes (keys_of es)
  names_are gs es h =
      AllZip-same_map IsEntry (λ g. g.0) (λ e. string_bytes e.0) (λ g e is. sym is.0) gs es h ∙ sym (map-map string_bytes (λ e. e.0) es)

  -- the group of the entry at an index
  group_at : (gs : List (List ℕ × List (Outline E))) (es : List (String Global × V)) (i : ℕ) (v : V) → AllZip IsEntry gs es → slice_get (values_of es) i ≡ Some v → (group : List (Outline E)) × (slice_get (values_of gs) i ≡ Some group) × Holds group v
  group_at [] [] i v h is = absurd (cc is)
  group_at (g ∷ gs) (e ∷ es) zero v h is = let same : e.1 ≡ v = cc is in (g.1, refl, subst (Holds g.1) same h.0.1)
  group_at (g ∷ gs) (e ∷ es) (suc i) v h is = group_at gs es i v h.1 is
  group_at gs es i v h is = absurd h

  -- both written at an index
  entries_set : (gs : List (List ℕ × List (Outline E))) (es : List (String Global × V)) (i : ℕ) (group : List (Outline E)) (v : V) → AllZip IsEntry gs es → Holds group v → AllZip IsEntry (set_value_at gs i group) (set_value_at es i v)
  entries_set [] [] i group v h holds = tt
  entries_set (g ∷ gs) (e ∷ es) zero group v h holds = ((h.0.0, holds), h.1)
  entries_set (g ∷ gs) (e ∷ es) (suc i) group v h holds = (h.0, entries_set gs es i group v h.1 holds)
  entries_set gs es i group v h holds = absurd h

  -- both inserted under a name
  module _ (k : String Global) (group : List (Outline E)) (v : V) (holds : Holds group v) where
    abbrev inserted : List (String Global × V) → List (String Global × V)
    inserted es = insert_entry (λ a b. same_name (string_bytes a) (string_bytes b)) es k v

    entries_inserted : (gs : List (List ℕ × List (Outline E))) (es : List (String Global × V)) → AllZip IsEntry gs es → AllZip IsEntry (insert_entry same_name gs (string_bytes k) group) (inserted es)
    entries_inserted [] [] h = ((refl, holds), tt)
    entries_inserted (g ∷ gs) (e ∷ es) h = grind (arith, entries_inserted gs es h.1, h.0.0, h.0.1, h.1, holds)
    entries_inserted gs es h = absurd h

  -- a name that no entry has is that of no group
  no_group : (name : List ℕ) (gs : List (List ℕ × List (Outline E))) (es : List (String Global × V)) → AllZip IsEntry gs es → false ≡ is_some (lookup (λ j. same_name name (string_bytes j)) es) → lookup (same_name name) gs ≡ None
  no_group name [] [] h none = refl
  no_group name (g ∷ gs) (e ∷ es) h none = grind (arith, no_group name gs es h.1, h.0.0, none)
  no_group name gs es h none = absurd h

  module _ (os : List (Outline E)) (name : List ℕ) (es : List (String Global × V)) (entries : AllZip IsEntry (bus_groups os) es) where
    module _ (i : ℕ) (at : position (λ j. same_name name (string_bytes j)) (keys_of es) ≡ Some i) (v : V) (had : slice_get (values_of es) i ≡ Some v) where
      found : Found (same_name name) (bus_groups os) i
      found = Found-position (same_name name) (bus_groups os) i (ap (position (same_name name)) (names_are (bus_groups os) es entries) ∙ position-map string_bytes (same_name name) (keys_of es) ∙ at)

      here : (group : List (Outline E)) × (slice_get (values_of (bus_groups os)) i ≡ Some group) × Holds group v
      here = group_at (bus_groups os) es i v entries had

      group_is : here.0 ≡ on_bus name os
      group_is = sym (ap (λ t. option_map_or (λ s. s) t []) (found.value ∙ here.1)) ∙ groups-lookup name os

      -- what is at the index of a name holds for its lookups
      pub held_at : Holds (on_bus name os) v
      held_at = subst (λ (t : List (Outline E)). Holds t v) group_is here.2

      -- the next lookup of a bus that is there
      pub bus_grown : (o : Outline E) (after : List (String Global × V)) (w : V) → o.bus ≡ Some name → Holds (on_bus name os ++ o ∷ []) w → after ≡ set_value_at es i w → AllZip IsEntry (bus_groups (os ++ o ∷ [])) after
      bus_grown o after w on holds after_is =
          let group = option_map_or (λ s. s) (lookup (same_name name) (bus_groups os)) [] ++ o ∷ [] in
          let held : Holds group w = subst (λ (t : List (Outline E)). Holds (t ++ o ∷ []) w) (sym (groups-lookup name os)) holds in
          subst (λ (gs : List (List ℕ × List (Outline E))). AllZip IsEntry gs after) (sym (insert_entry-first same_name name group (bus_groups os) i found.first) ∙ groups-push os o name on)
          (subst (λ (t : List (String Global × V)). AllZip IsEntry (set_value_at (bus_groups os) i group) t) (sym after_is) (entries_set (bus_groups os) es i group w entries held))

    -- the first lookup of a new bus
    pub bus_opened : (o : Outline E) (after : List (String Global × V)) (k : String Global) (v : V) → o.bus ≡ Some name → string_bytes k ≡ name → false ≡ is_some (lookup (λ j. same_name name (string_bytes j)) es) → Holds (o ∷ []) v
        → after ≡ insert_entry (λ a b. same_name (string_bytes a) (string_bytes b)) es k v → AllZip IsEntry (bus_groups (os ++ o ∷ [])) after
    bus_opened o after k v on copied new holds after_is =
        let group = option_map_or (λ s. s) (lookup (same_name name) (bus_groups os)) [] ++ o ∷ [] in
        let held : Holds group v = subst (λ (t : Option (List (Outline E))). Holds (option_map_or (λ s. s) t [] ++ o ∷ []) v) (sym (no_group name (bus_groups os) es entries new)) holds in
        subst (λ (gs : List (List ℕ × List (Outline E))). AllZip IsEntry gs after) (ap (λ n. insert_entry same_name (bus_groups os) n group) copied ∙ groups-push os o name on)
        (subst (λ (t : List (String Global × V)). AllZip IsEntry (insert_entry same_name (bus_groups os) (string_bytes k) group) t) (sym after_is) (entries_inserted k group v held (bus_groups os) es entries))
