-- Groups of lookups, lookup by lookup.
use Rattle.std.proofs.Common.{◌≡◌, ◌<◌, ◌+◌, ℕ, length, get_or, take, false, cond, unwrap_or, List, [], ◌∷◌, ◌++◌, Option, None, Some, map, option_map, refl, sym, ap, ◌∙◌, arith}
use Rattle.std.proofs.lemmas.List.{append-nil, map-append}
use Rattle.std.proofs.lemmas.List.Elements.{filter-append, filter_map-append}
use Rattle.std.specs.List.{filter_map, list_any}
use Rattle.std.specs.Map.{lookup}
use Rattle.std.specs.Option.{option_map_or}
use Rattle.std.specs.declared.alloc.Global.{Global}
use Rattle.std.specs.Borrow.{Bor}
use Rattle.std.specs.declared.vec.Vec.{Vec}
use Rattle.list_laws.proofs.Images.{images_more, map_same}
use Rattle.air_expressions.specs.declared.base_expression.SymbolicExpression.{SymbolicExpression}
use Rattle.indexmap.specs.IndexMap.{insert_entry}
use Rattle.lookup_model.proofs.Lookups.Regrouping.{first_seen_separate}
use Rattle.lookup_model.proofs.Names.{same_name-Decides}
use Rattle.lookup_model.specs.Net.{first_seen}
use Rattle.lookup_model.specs.Outline.{Outline, bus_of, fields_of}
use Rattle.lookup_messages.proofs.FirstSeen.{first_seen-push}
use Rattle.lookup_messages.proofs.NetEntries.{any-first_seen, insert-valued, lookup-valued, turned}
use Rattle.lookup_model.specs.declared.types.Lookup.{Lookup}
use Rattle.lookup.specs.Buses.{bus_groups, bus_names, group_of, on_bus}
use Rattle.lookup_model.specs.Names.{is_named, same_name}

module _ {E : Type 0} where
  -- the names of the buses, lookup by lookup
  abbrev names : List (Outline E) → List (List ℕ)
  names os = filter_map (λ o. o.bus) os

  -- a name that no lookup has has no lookups
  on_bus-none : (name : List ℕ) (os : List (Outline E)) → list_any (λ other. same_name other name) (filter_map (λ o. o.bus) os) ≡ false → on_bus name os ≡ []
  on_bus-none name [] e = refl
  on_bus-none name (o ∷ os) e = grind (arith, on_bus-none name os, e, λ (other : List ℕ). turned same_name same_name-Decides name other)

  -- what the groups have at a name, or nothing, are its lookups
  pub groups-lookup : (name : List ℕ) (os : List (Outline E)) → option_map_or (λ t. t) (lookup (same_name name) (bus_groups os)) [] ≡ on_bus name os
  groups-lookup name os =
      ap (λ t. option_map_or (λ s. s) t []) (lookup-valued same_name same_name-Decides (λ n. on_bus n os) name (bus_names os)
      ∙ ap (λ b. cond b (Some (on_bus name os)) None) (any-first_seen same_name same_name-Decides (filter_map (λ o. o.bus) os) name))
      ∙ grind (arith, on_bus-none name os)

  on_bus-push : (name : List ℕ) (os : List (Outline E)) (o : Outline E) → on_bus name (os ++ o ∷ []) ≡ on_bus name os ++ cond (is_named name o.bus) (o ∷ []) []
  on_bus-push name os o = filter-append (λ (p : Outline E). is_named name p.bus) os (o ∷ [])

  -- a lookup on no bus changes no group
  pub groups-skip : (os : List (Outline E)) (o : Outline E) → o.bus ≡ None → bus_groups (os ++ o ∷ []) ≡ bus_groups os
  groups-skip os o local =
      let same_names : names (os ++ o ∷ []) ≡ names os = grind (arith, filter_map-append (λ p. p.bus) os (o ∷ []), local, append-nil (names os)) in
      let same_lookups : (name : List ℕ) → on_bus name (os ++ o ∷ []) ≡ on_bus name os = λ name. grind (arith, on_bus-push name os o, local, append-nil (on_bus name os)) in
      ap (λ ns. map (λ n. (n, on_bus n (os ++ o ∷ []))) (first_seen same_name ns)) same_names
      ∙ map_same (λ n. (n, on_bus n (os ++ o ∷ []))) (λ n. (n, on_bus n os)) (λ n i. (n, same_lookups n i)) (bus_names os)

  -- a lookup on a bus goes to the end of its lookups
  pub on_bus-own : (os : List (Outline E)) (o : Outline E) (name : List ℕ) → o.bus ≡ Some name → on_bus name (os ++ o ∷ []) ≡ on_bus name os ++ o ∷ []
  on_bus-own os o name on = grind (arith, on_bus-push name os o, on, same_name-Decides name name)

  -- so it goes to the end of its group, and a new group goes last
  pub groups-push : (os : List (Outline E)) (o : Outline E) (name : List ℕ) → o.bus ≡ Some name
      → insert_entry same_name (bus_groups os) name (option_map_or (λ t. t) (lookup (same_name name) (bus_groups os)) [] ++ o ∷ []) ≡ bus_groups (os ++ o ∷ [])
  groups-push os o name on =
      let longer : names (os ++ o ∷ []) ≡ names os ++ name ∷ [] = grind (arith, filter_map-append (λ p. p.bus) os (o ∷ []), on) in
      let others : (n : List ℕ) → same_name name n ≡ false → on_bus n os ≡ on_bus n (os ++ o ∷ []) = λ n apart. grind (arith, on_bus-push n os o, on, apart, turned same_name same_name-Decides n name, append-nil (on_bus n os)) in
      ap (λ t. insert_entry same_name (bus_groups os) name (t ++ o ∷ [])) (groups-lookup name os)
      ∙ ap (insert_entry same_name (bus_groups os) name) (sym (on_bus-own os o name on))
      ∙ insert-valued same_name same_name-Decides (λ n. on_bus n os) (λ n. on_bus n (os ++ o ∷ [])) name others (bus_names os) (first_seen_separate same_name (filter_map (λ p. p.bus) os))
      ∙ ap (map (λ n. (n, on_bus n (os ++ o ∷ [])))) (
      ap (λ b. cond b (bus_names os) (bus_names os ++ name ∷ [])) (any-first_seen same_name same_name-Decides (filter_map (λ p. p.bus) os) name)
      ∙ sym (first_seen-push same_name same_name-Decides (filter_map (λ p. p.bus) os) name)
      ∙ ap (first_seen same_name) (sym longer))

-- a map whose keys and values are seen through views
module _ {K V X : Type 0} (key : K → List ℕ) (items : V → List X) where
  abbrev pub viewed : List (K × V) → List (List ℕ × List X)
  viewed es = map (λ e. (key e.0, items e.1)) es

  pub lookup-viewed : (k : K) (es : List (K × V)) → option_map items (lookup (λ j. same_name (key k) (key j)) es) ≡ lookup (same_name (key k)) (viewed es)
  lookup-viewed k [] = refl
  lookup-viewed k (e ∷ es) = grind (arith, lookup-viewed k es)

  pub insert-viewed : (es : List (K × V)) (k : K) (v : V) → viewed (insert_entry (λ i j. same_name (key i) (key j)) es k v) ≡ insert_entry same_name (viewed es) (key k) (items v)
  insert-viewed [] k v = refl
  insert-viewed (e ∷ es) k v = grind (arith, insert-viewed es k v)

-- The step of a map of groups: one more lookup at its key.
module _ {E K V : Type 0} (key : K → List ℕ) (items : V → List (Outline E)) where
  pub one_more : (os : List (Outline E)) (o : Outline E) (es : List (K × V)) (k : K) (group : V)
      → viewed key items es ≡ bus_groups os → o.bus ≡ Some (key k)
      → items group ≡ option_map_or items (lookup (λ j. same_name (key k) (key j)) es) [] ++ o ∷ []
      → viewed key items (insert_entry (λ i j. same_name (key i) (key j)) es k group) ≡ bus_groups (os ++ o ∷ [])
  one_more os o es k group so_far on group_is =
      let had : option_map_or items (lookup (λ j. same_name (key k) (key j)) es) [] ≡ option_map_or (λ s. s) (lookup (same_name (key k)) (viewed key items es)) [] = grind (arith, lookup-viewed key items k es) in
      let grown = group_is ∙ ap (λ t. t ++ o ∷ []) had ∙ ap (λ t. option_map_or (λ s. s) (lookup (same_name (key k)) t) [] ++ o ∷ []) so_far in
      insert-viewed key items es k group ∙ (λ i. insert_entry same_name (so_far i) (key k) (grown i)) ∙ groups-push os o (key k) on

-- the group that a map has at a key, or an empty one
pub group_items : {T : Type 0} (found : Option (Vec T Global)) (group empty : Vec T Global) → group ≡ unwrap_or found empty → empty.items ≡ [] → group.items ≡ option_map_or (λ v. v.items) found []
group_items found group empty is none = grind (arith, is, none)

-- what is seen of a group with one more item
seen_items : {T X : Type 0} (see : T → X) (found : Option (Vec T Global)) (item : T) (group : Vec T Global) → group.items ≡ option_map_or (λ v. v.items) found [] ++ item ∷ [] → map see group.items ≡ option_map_or (λ v. map see v.items) found [] ++ see item ∷ []
seen_items see None item group is = ap (map see) is
seen_items see (Some v) item group is = ap (map see) is ∙ map-append see v.items (item ∷ [])

module _ {F : Type 0} where
  -- a map of borrowed lookups with one more of them
  pub borrowed_more : (ls : List (Lookup F)) (i : ℕ) (l : Lookup F) (es after : List (Bor (List ℕ) × Vec (Bor (Lookup F)) Global)) (k : Bor (List ℕ)) (r : Bor (Lookup F)) → i < length ls → l ≡ get_or ls i l
      → map group_of es ≡ bus_groups (map fields_of (take i ls)) → r.now ≡ l → bus_of l.kind ≡ Some k.now
      → ((group : Vec (Bor (Lookup F)) Global) × (group.items ≡ option_map_or (λ found. found.items) (lookup (λ j. same_name k.now j.now) es) [] ++ r ∷ []) × (after ≡ insert_entry (λ a b. same_name a.now b.now) es k group))
      → map group_of after ≡ bus_groups (map fields_of (take (i + 1) ls))
  borrowed_more ls i l es after k r lt is so_far item on added =
      let see : Bor (Lookup F) → Outline (SymbolicExpression F) = λ x. fields_of x.now in
      let (group, items, after_is) = added in
      ap (map group_of) after_is
      ∙ one_more (λ (b : Bor (List ℕ)). b.now) (λ (v : Vec (Bor (Lookup F)) Global). map see v.items) (map fields_of (take i ls)) (fields_of l) es k group so_far on
      (seen_items see (lookup (λ j. same_name k.now j.now) es) r group items ∙ ap (λ x. option_map_or (λ v. map see v.items) (lookup (λ j. same_name k.now j.now) es) [] ++ fields_of x ∷ []) item)
      ∙ ap bus_groups (sym (images_more fields_of ls i l lt is))

  -- a lookup on no bus changes no group
  pub borrowed_skip : (ls : List (Lookup F)) (i : ℕ) (l : Lookup F) (es : List (Bor (List ℕ) × Vec (Bor (Lookup F)) Global)) → i < length ls → l ≡ get_or ls i l
      → map group_of es ≡ bus_groups (map fields_of (take i ls)) → bus_of l.kind ≡ None → map group_of es ≡ bus_groups (map fields_of (take (i + 1) ls))
  borrowed_skip ls i l es lt is so_far off =
      so_far ∙ sym (groups-skip (map fields_of (take i ls)) (fields_of l) off) ∙ ap bus_groups (sym (images_more fields_of ls i l lt is))
