-- Lookups by bus, of which less than the whole is kept.
use Rattle.std.proofs.Common.{◌≡◌, ◌<◌, ◌+◌, ℕ, Bool, true, false, cond, length, get_or, take, unwrap_or, Vec, Global, Option, Some, List, [], ◌∷◌, ◌++◌, map, refl, sym, ap, ◌∙◌, arith}
use Rattle.std.proofs.lemmas.List.{append-nil, map-append}
use Rattle.std.proofs.lemmas.List.Elements.{filter-append}
use Rattle.std.specs.List.{filter, flat_map}
use Rattle.std.specs.Map.{lookup, values_of}
use Rattle.std.specs.Option.{option_map_or}
use Rattle.list_laws.proofs.Images.{images_more}
use Rattle.indexmap.specs.IndexMap.{insert_entry}
use Rattle.lookup_model.specs.Names.{same_name}
use Rattle.lookup_model.specs.Outline.{Outline}
use Rattle.lookup.proofs.GroupLaws.{groups-push, insert-viewed, lookup-viewed, viewed}
use Rattle.lookup.specs.Buses.{bus_groups, on_bus}

module _ {K V X : Type 0} (key : K → List ℕ) (items : V → List X) where
  -- the values of a map, put together
  pub flat_values : (es : List (K × V)) → flat_map items (values_of es) ≡ flat_map (λ (group : List ℕ × List X). group.1) (viewed key items es)
  flat_values [] = refl
  flat_values (e ∷ es) = ap (λ t. items e.1 ++ t) (flat_values es)

module _ {E X : Type 0} (keep : Outline E → X) where
  -- a group, of whose lookups this is kept
  abbrev pub kept_group : List ℕ × List (Outline E) → List ℕ × List X
  kept_group group = (group.0, map keep group.1)

  lookup_kept : (name : List ℕ) (groups : List (List ℕ × List (Outline E))) → option_map_or (λ t. t) (lookup (same_name name) (map kept_group groups)) [] ≡ map keep (option_map_or (λ t. t) (lookup (same_name name) groups) [])
  lookup_kept name [] = refl
  lookup_kept name (g ∷ gs) = grind (arith, lookup_kept name gs)

  insert_kept : (groups : List (List ℕ × List (Outline E))) (name : List ℕ) (os : List (Outline E)) → insert_entry same_name (map kept_group groups) name (map keep os) ≡ map kept_group (insert_entry same_name groups name os)
  insert_kept [] name os = refl
  insert_kept (g ∷ gs) name os = grind (arith, insert_kept gs name os)

  -- the lookups of some buses, put together
  pub flat_kept : (os : List (Outline E)) (names : List (List ℕ)) → flat_map (λ (group : List ℕ × List X). group.1) (map kept_group (map (λ name. (name, on_bus name os)) names)) ≡ map keep (flat_map (λ name. on_bus name os) names)
  flat_kept os [] = refl
  flat_kept os (n ∷ ns) = ap (λ t. map keep (on_bus n os) ++ t) (flat_kept os ns) ∙ sym (map-append keep (on_bus n os) (flat_map (λ name. on_bus name os) ns))

  module _ {K V : Type 0} (key : K → List ℕ) (items : V → List X) where
    -- one more lookup, at the end of its group
    pub one_more_kept : (os : List (Outline E)) (o : Outline E) (es after : List (K × V)) (k : K) (group : V)
        → viewed key items es ≡ map kept_group (bus_groups os) → o.bus ≡ Some (key k)
        → items group ≡ option_map_or items (lookup (λ j. same_name (key k) (key j)) es) [] ++ keep o ∷ []
        → after ≡ insert_entry (λ i j. same_name (key i) (key j)) es k group
        → viewed key items after ≡ map kept_group (bus_groups (os ++ o ∷ []))
    one_more_kept os o es after k group so_far on group_is after_is =
        let had : option_map_or items (lookup (λ j. same_name (key k) (key j)) es) [] ≡ option_map_or (λ s. s) (lookup (same_name (key k)) (viewed key items es)) [] = grind (arith, lookup-viewed key items k es) in
        let old = option_map_or (λ s. s) (lookup (same_name (key k)) (bus_groups os)) [] in
        let grown : items group ≡ map keep (old ++ o ∷ []) = group_is ∙ ap (λ t. t ++ keep o ∷ []) (had ∙ ap (λ t. option_map_or (λ s. s) (lookup (same_name (key k)) t) []) so_far ∙ lookup_kept (key k) (bus_groups os)) ∙ sym (map-append keep old (o ∷ [])) in
        ap (viewed key items) after_is ∙ insert-viewed key items es k group ∙ (λ i. insert_entry same_name (so_far i) (key k) (grown i)) ∙ insert_kept (bus_groups os) (key k) (old ++ o ∷ []) ∙ ap (map kept_group) (groups-push os o (key k) on)

module _ {A B : Type 0} (f : A → B) (p : B → Bool) (xs : List A) (i : ℕ) (x : A) (lt : i < length xs) (is : x ≡ get_or xs i x) where
  next_kept : filter p (map f (take (i + 1) xs)) ≡ filter p (map f (take i xs)) ++ cond (p (f x)) (f x ∷ []) []
  next_kept = ap (filter p) (images_more f xs i x lt is) ∙ filter-append p (map f (take i xs)) (f x ∷ [])

  -- one more item is kept, or left out
  pub kept_next : p (f x) ≡ true → filter p (map f (take (i + 1) xs)) ≡ filter p (map f (take i xs)) ++ f x ∷ []
  kept_next test = next_kept ∙ ap (λ b. filter p (map f (take i xs)) ++ cond b (f x ∷ []) []) test

  pub left_next : p (f x) ≡ false → filter p (map f (take (i + 1) xs)) ≡ filter p (map f (take i xs))
  left_next test = next_kept ∙ ap (λ b. filter p (map f (take i xs)) ++ cond b (f x ∷ []) []) test ∙ append-nil (filter p (map f (take i xs)))

-- the group that a map has at a key, or an empty one, with one more item
pub grown_group : {T : Type 0} (found : Option (Vec T Global)) (group empty after : Vec T Global) (item kept : T) → group ≡ unwrap_or found empty → empty.items ≡ [] → after.items ≡ group.items ++ item ∷ [] → item ≡ kept → after.items ≡ option_map_or (λ v. v.items) found [] ++ kept ∷ []
grown_group found group empty after item kept is none grown same = grown ∙ (λ i. grind_group i ++ same i ∷ [])
  where
    grind_group : group.items ≡ option_map_or (λ v. v.items) found []
    grind_group = grind (arith, is, none)
