-- Ids, lookup by lookup.
use Rattle.std.proofs.Common.{◌≡◌, ◌≢◌, ◌<◌, ◌≤◌, ◌+◌, ◌++◌, ◌∷◌, ℕ, zero, suc, Bool, true, false, cond, true≢false, inl, inr, List, [], Option, None, Some, IsTrue, get_or, length, map, max, take, unwrap_or, refl, sym, ap, subst, subst₂, ◌∙◌, arith}
use Rattle.std.proofs.lemmas.Bool.{cases_lt}
use Rattle.std.proofs.lemmas.Grind.{flat_map-append}
use Rattle.std.proofs.lemmas.List.{append-nil, append_assoc, get_or_append_left, get_or_push, length-take-le, length_push, map_push, take-append-le, take_all}
use Rattle.std.proofs.lemmas.List.Elements.{All-push}
use Rattle.std.specs.Borrow.{Bor}
use Rattle.std.specs.List.{HoldsAt, flat_map, zip}
use Rattle.std.specs.Map.{lookup}
use Rattle.std.specs.declared.alloc.Global.{Global}
use Rattle.std.specs.declared.vec.Vec.{Vec}
use Rattle.indexmap.specs.IndexMap.{insert_entry}
use Rattle.list_laws.proofs.Images.{images_more, same_length}
use Rattle.list_laws.proofs.Items.{take_item}
use Rattle.list_laws.proofs.Zips.{zip_push}
use Rattle.lookup_model.proofs.Names.{same_name-Decides}
use Rattle.lookup_model.specs.LookupDegree.{greatest}
use Rattle.lookup_model.specs.Names.{same_name}
use Rattle.lookup_model.specs.declared.types.Lookup.{Lookup}
use Rattle.lookup.proofs.NamedWidthLaws.{at_inserted}
use Rattle.lookup.specs.Lookups.{lookups_of}
use Rattle.lookup.specs.declared.lookups.Lookups.{Lookups}
use Rattle.batch.proofs.Greatest.{greatest_append}
use Rattle.batch.proofs.SharedBuses.{Entry, apart_pairs, joined_pairs, shared}
use Rattle.batch.specs.Lists.{lists_of}
use Rattle.batch.specs.Order.{AreInOrder, bus_of_numbered, next_id, same_bus}
use Rattle.batch.specs.PlanFacts.{lookups_with_ids}
use Rattle.batch.specs.declared.ids.GivenIds.{GivenIds}
use Rattle.batch.specs.internal.Numbering.{AreGivenInOrder, IsBusId, IsKnown}

module _ {F : Type 0} where
  -- each id is below the next one
  pub below_next : (all : List (Entry F)) (k : ℕ) (d : Entry F) → k < length all → (get_or all k d).0 < next_id all
  below_next [] k d lt = absurd (omega (arith, lt))
  below_next (a ∷ rest) zero d lt = omega arith
  below_next (a ∷ rest) (suc k) d lt = omega (arith, below_next rest k d (omega (arith, lt)))

  module _ (all : List (Entry F)) (a : Entry F) where
    -- one lookup more
    abbrev more : List (Entry F)
    more = all ++ a ∷ []

    next_push : next_id more ≡ max (next_id all) (a.0 + 1)
    next_push = omega (arith, ap greatest (map_push (λ (t : Entry F). t.0 + 1) all a), greatest_append (map (λ t. t.0 + 1) all) ((a.0 + 1) ∷ []))

    steps_more : ((i : ℕ) (d : Entry F) → i < length all → (get_or all i d).0 ≤ next_id (take i all)) → a.0 ≤ next_id all
        → (i : ℕ) (d : Entry F) → i < length more → (get_or more i d).0 ≤ next_id (take i more)
    steps_more steps last i d lt =
        let IsStep = λ (x : Entry F) (xs : List (Entry F)). x.0 ≤ next_id xs in
        elim (cases_lt i (length all)) [
          | inl early ↦ subst₂ IsStep (sym (get_or_append_left all (a ∷ []) d i early)) (sym (take-append-le i all (a ∷ []) (omega (arith, early)))) (steps i d early)
          | inr late ↦
              let at : length all ≡ i = omega (arith, late, lt, length_push all a) in
              subst₂ IsStep (sym (get_or_push all a d i at)) (sym (take-append-le i all (a ∷ []) (omega (arith, at)) ∙ take_all i all (omega (arith, at)))) last
        ]

    module _ (m : ℕ) (order : AreInOrder all m) where
      -- a lookup that shares no bus with an earlier one has the next id
      fresh : a.0 ≡ m → ((k : ℕ) (d : Entry F) → k < length all → ¬ IsTrue (same_bus (bus_of_numbered (get_or all k d)) (bus_of_numbered a))) → AreInOrder more (m + 1)
      fresh is apart = record {
        buses = apart_pairs all a order.buses (λ k d lt same. absurd (omega (arith, same, below_next all k d lt, is, order.count))) apart;
        steps = steps_more order.steps (omega (arith, is, order.count));
        count = omega (arith, next_push, is, order.count);
      }

      -- a lookup on the bus of an earlier one has its id
      joined : (name : List ℕ) (j : ℕ) → j < length all → HoldsAt (λ b. (bus_of_numbered b ≡ Some name) × (b.0 ≡ a.0)) all j → bus_of_numbered a ≡ Some name → AreInOrder more m
      joined name j here known on =
          let low : a.0 < next_id all = omega (arith, below_next all j a here, (known a).1) in
          record {
            buses = joined_pairs all a order.buses name j here known on;
            steps = steps_more order.steps (omega (arith, low));
            count = omega (arith, next_push, low, order.count);
          }

    -- what is known of a name stays, unless the lookup is on its bus
    pub still_known : (name : List ℕ) (o : Option ℕ) → bus_of_numbered a ≢ Some name → IsKnown all name o → IsKnown more name o
    still_known name None other none = All-push (λ b. bus_of_numbered b ≢ Some name) all a none other
    still_known name (Some id) other (k, lt, known) =
        (k, omega (arith, lt, length_push all a), λ d. subst (λ (b : Entry F). (bus_of_numbered b ≡ Some name) × (b.0 ≡ id)) (sym (get_or_append_left all (a ∷ []) d k lt)) (known d))

    now_known : (name : List ℕ) → bus_of_numbered a ≡ Some name → IsKnown more name (Some a.0)
    now_known name on =
        (length all, omega (arith, length_push all a), λ d. subst (λ (b : Entry F). (bus_of_numbered b ≡ Some name) × (b.0 ≡ a.0)) (sym (get_or_push all a d (length all) refl)) (on, refl))

    -- where a map has the id of each name, it has it with one lookup more on a bus
    pub known_more : (name : Bor (List ℕ)) → bus_of_numbered a ≡ Some name.now → (old new : List (Bor (List ℕ) × ℕ)) → new ≡ insert_entry (λ b c. same_name b.now c.now) old name a.0
        → ((q : List ℕ) → IsKnown all q (lookup (λ k. same_name q k.now) old)) → (q : List ℕ) → IsKnown more q (lookup (λ k. same_name q k.now) new)
    known_more name on old new new_is known q =
        subst (IsKnown more q) (sym (ap (λ es. lookup (λ k. same_name q k.now) es) new_is ∙ at_inserted (λ k. k.now) old name a.0 q)) (by_name (same_name q name.now) refl)
      where
        by_name : (b : Bool) → same_name q name.now ≡ b → IsKnown more q (cond b (Some a.0) (lookup (λ k. same_name q k.now) old))
        by_name true e = now_known q (on ∙ ap Some (sym ((same_name-Decides q name.now).0 e)))
        by_name false e = still_known q (lookup (λ k. same_name q k.now) old) (λ is. absurd (true≢false (sym ((same_name-Decides q name.now).1 (cc (sym is ∙ on))) ∙ e))) (known q)

module _ {F : Type 0} (all : List (Entry F)) (before after : GivenIds) (given : AreGivenInOrder all before) (a : Entry F) where
  -- what the map has for a name
  abbrev id_in : List ℕ → List (Bor (List ℕ) × ℕ) → Option ℕ
  id_in name entries = lookup (λ k. same_name name k.now) entries

  -- a local lookup
  pub local_given : bus_of_numbered a ≡ None → (a.0 ≡ before.next) × (after.next ≡ a.0 + 1) × (after.names.entries ≡ before.names.entries) → AreGivenInOrder (all ++ a ∷ []) after
  local_given none is = record {
    in_order = subst (AreInOrder (all ++ a ∷ [])) (omega (arith, is.0, is.1))
        (fresh all a before.next given.in_order is.0 (λ k d lt t. let (name, one, other) = shared (bus_of_numbered (get_or all k d)) (bus_of_numbered a) t in cc (sym none ∙ other)));
    names = λ name. subst (λ (es : List (Bor (List ℕ) × ℕ)). IsKnown (all ++ a ∷ []) name (id_in name es)) (sym is.2)
        (still_known all a name (id_in name before.names.entries) (λ on. absurd (cc (sym none ∙ on))) (given.names name));
  }

  -- a lookup on a bus
  module _ (name : Bor (List ℕ)) (on : bus_of_numbered a ≡ Some name.now) (is : IsBusId name before after a.0) where
    order_more : (o : Option ℕ) → a.0 ≡ unwrap_or o before.next → IsKnown all name.now o → AreInOrder (all ++ a ∷ []) after.next
    order_more None id none =
        subst (AreInOrder (all ++ a ∷ [])) (sym (is.is_new id))
        (fresh all a before.next given.in_order id (λ k d lt t. let (other, of_x, of_a) = shared (bus_of_numbered (get_or all k d)) (bus_of_numbered a) t in none k d lt (of_x ∙ sym of_a ∙ on)))
    order_more (Some v) id (j, here, known) =
        let low : a.0 < before.next = omega (arith, below_next all j a here, (known a).1, id, given.in_order.count) in
        subst (AreInOrder (all ++ a ∷ [])) (sym (is.is_old (λ same. absurd (omega (arith, same, low)))))
        (joined all a before.next given.in_order name.now j here (λ d. ((known d).0, (known d).1 ∙ sym id)) on)

    pub bus_given : AreGivenInOrder (all ++ a ∷ []) after
    bus_given = record {
      in_order = order_more (id_in name.now before.names.entries) is.id_is (given.names name.now);
      names = known_more all a name on before.names.entries after.names.entries is.names given.names;
    }

-- the ids of an AIR, with one more
pub given_more : {F : Type 0} (all : List (Entry F)) (ids : List ℕ) (lookups : List (Lookup F)) (i id : ℕ) (l : Lookup F) (more : List ℕ) (after : GivenIds) → i < length lookups → l ≡ get_or lookups i l → length ids ≡ i → more ≡ ids ++ id ∷ []
    → AreGivenInOrder ((all ++ zip ids (take i lookups)) ++ (id, l) ∷ []) after → AreGivenInOrder (all ++ zip more (take (i + 1) lookups)) after
given_more {F} all ids lookups i id l more after lt is long more_is given =
    let zipped : zip more (take (i + 1) lookups) ≡ zip ids (take i lookups) ++ (id, l) ∷ [] =
    (λ j. zip (more_is j) (take_item lookups i l lt is j)) ∙ zip_push ids (take i lookups) id l (long ∙ sym (length-take-le i lookups (omega (arith, lt)))) in
    subst (λ (xs : List (Entry F)). AreGivenInOrder xs after) (append_assoc all (zip ids (take i lookups)) ((id, l) ∷ []) ∙ ap (λ t. all ++ t) (sym zipped)) given

-- the ids of a plan, with one more AIR
module _ {F : Type 0} (lists more : List (Vec ℕ Global)) (airs : List (Lookups F)) (n : ℕ) (i : Vec ℕ Global) (air : Lookups F) (after : GivenIds)
    (lt : n < length airs) (is : air ≡ get_or airs n air) (more_is : more ≡ lists ++ i ∷ [])
    (as_many : map length (lists_of lists) ≡ map (λ a. length (lookups_of a)) (take n airs)) where
  ids_are : lists_of more ≡ lists_of lists ++ i.items ∷ []
  ids_are = ap lists_of more_is ∙ map_push (λ (l : Vec ℕ Global). l.items) lists i

  pub more_given : (lookups : List (Lookup F)) → lookups ≡ lookups_of air → AreGivenInOrder (lookups_with_ids (lists_of lists) (take n airs) ++ zip i.items lookups) after → AreGivenInOrder (lookups_with_ids (lists_of more) (take (n + 1) airs)) after
  more_given lookups are given =
      let entries = λ (p : List ℕ × Lookups F). zip p.0 (lookups_of p.1) in
      let same : length (lists_of lists) ≡ length (take n airs) = same_length length (λ a. length (lookups_of a)) (lists_of lists) (take n airs) as_many in
      subst (λ (xs : List (Entry F)). AreGivenInOrder xs after)
      (ap (λ ls. lookups_with_ids (lists_of lists) (take n airs) ++ zip i.items ls) are
      ∙ sym ((λ j. lookups_with_ids (ids_are j) (take_item airs n air lt is j)) ∙ ap (flat_map entries) (zip_push (lists_of lists) (take n airs) i.items air same)
      ∙ flat_map-append entries (zip (lists_of lists) (take n airs)) ((i.items, air) ∷ []) ∙ ap (λ t. lookups_with_ids (lists_of lists) (take n airs) ++ t) (append-nil (entries (i.items, air))))) given

  pub more_as_many : length i.items ≡ length (lookups_of air) → map length (lists_of more) ≡ map (λ a. length (lookups_of a)) (take (n + 1) airs)
  more_as_many long =
      ap (map length) ids_are ∙ map_push length (lists_of lists) i.items
      ∙ (λ j. as_many j ++ long j ∷ [])
      ∙ sym (images_more (λ a. length (lookups_of a)) airs n air lt is)
