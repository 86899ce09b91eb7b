-- Ids that a plan is given, while they are seen: lookup by lookup, and AIR by AIR.
use Rattle.std.proofs.Common.{◌≡◌, ◌≢◌, ◌↔◌, ◌<◌, ◌+◌, ◌++◌, ◌∷◌, ◌||◌, ℕ, All, Bool, true, false, not, true≢false, if◌then◌else◌, List, [], MatchOption, Option, None, Some, IsTrue, drop, get_or, length, nat_eq, take, refl, sym, ap, subst, subst₂, ◌∙◌, arith}
use Rattle.std.proofs.lemmas.Bool.Decides.{Decides-eqb}
use Rattle.std.proofs.lemmas.List.{append_assoc, get_or_append_left, get_or_default, get_or_push, length-append, length-map, length_push, take-append-drop}
use Rattle.std.proofs.lemmas.List.Elements.{All-nil, All-push}
use Rattle.std.proofs.lemmas.List.Folds.{list_any-append}
use Rattle.std.proofs.lemmas.Slice.Zip.{length-zip}
use Rattle.std.specs.Borrow.{Bor}
use Rattle.std.specs.List.{HoldsAt, flat_map, zip}
use Rattle.std.specs.Map.{lookup}
use Rattle.std.specs.declared.alloc.Global.{Global}
use Rattle.std.specs.declared.vec.Vec.{Vec}
use Rattle.list_laws.proofs.Images.{mapped_at}
use Rattle.list_laws.proofs.Items.{take_item}
use Rattle.list_laws.proofs.Parts.{flat_next, flat_split}
use Rattle.list_laws.proofs.Zips.{zip_at}
use Rattle.lookup_model.specs.Names.{same_name}
use Rattle.lookup_model.specs.declared.types.Lookup.{Lookup}
use Rattle.lookup.specs.Lookups.{lookups_of}
use Rattle.lookup.specs.declared.lookups.Lookups.{Lookups}
use Rattle.batch.proofs.GivenLaws.{known_more, still_known}
use Rattle.batch.proofs.SharedBuses.{Entry, IsByBus, apart_pairs, joined_pairs, share, shared}
use Rattle.batch.specs.Lists.{lists_of}
use Rattle.batch.specs.Order.{AreByBus, bus_of_numbered, same_bus}
use Rattle.batch.specs.PlanFacts.{lookups_with_ids}
use Rattle.batch.specs.declared.assigned.SeenIds.{SeenIds}
use Rattle.batch.specs.internal.Numbering.{IsKnown}
use Rattle.batch.specs.internal.Seen.{AreSeen, IsNewId, IsSeenOnBus, IsUsed, Sees, is_among}

module _ {F : Type 0} (m : ℕ) where
  -- ids of more lookups are by bus, so are those of the first of them
  front : (xs ys : List (Entry F)) → AreByBus (xs ++ ys) m → AreByBus xs m
  front xs ys by_bus = record {
    buses = λ i j d before within.
        subst₂ IsByBus (get_or_append_left xs ys d i (omega (arith, before, within))) (get_or_append_left xs ys d j within) (by_bus.buses i j d before (omega (arith, within, length-append xs ys)));
    below = λ k d lt. subst (λ (b : Entry F). b.0 < m) (get_or_append_left xs ys d k lt) (by_bus.below k d (omega (arith, lt, length-append xs ys)));
  }

  -- of no lookups
  pub none_seen : (seen : SeenIds) → seen.names.entries ≡ [] → seen.ids.keys ≡ [] → AreSeen {F = F} m [] seen
  none_seen seen names ids = record {
    by_bus = record { buses = λ i j d before within. absurd (omega (arith, within)); below = All-nil (λ (b : Entry F). b.0 < m) };
    ids = λ id. subst (λ (ks : List ℕ). IsUsed {F = F} [] id (is_among id ks)) (sym ids) (All-nil (λ (b : Entry F). b.0 ≢ id));
    names = λ q. subst (λ (es : List (Bor (List ℕ) × ℕ)). IsKnown {F = F} [] q (lookup (λ k. same_name q k.now) es)) (sym names) (All-nil (λ (b : Entry F). bus_of_numbered b ≢ Some q));
  }

  module _ (all : List (Entry F)) (a : Entry F) where
    -- one lookup more
    abbrev more : List (Entry F)
    more = all ++ a ∷ []

    -- whose ids are by bus: that of the last one is below m, and agrees with each earlier one
    pub last_below : AreByBus more m → a.0 < m
    last_below by_bus = subst (λ (b : Entry F). b.0 < m) (get_or_push all a a (length all) refl) (by_bus.below (length all) a (omega (arith, length_push all a)))

    last_agrees : AreByBus more m → (k : ℕ) → k < length all → IsByBus (get_or all k a) a
    last_agrees by_bus k lt =
        subst₂ IsByBus (get_or_append_left all (a ∷ []) a k lt) (get_or_push all a a (length all) refl) (by_bus.buses k (length all) a lt (omega (arith, length_push all a)))

    used_there : (id k : ℕ) → k < length all → HoldsAt (λ b. b.0 ≡ id) all k → IsUsed more id true
    used_there id k lt at = (k, omega (arith, lt, length_push all a), λ d. subst (λ (b : Entry F). b.0 ≡ id) (sym (get_or_append_left all (a ∷ []) d k lt)) (at d))

    -- the ids that are kept, with a new one
    used_more : (ids : List ℕ) → ((id : ℕ) → IsUsed all id (is_among id ids)) → (id : ℕ) → IsUsed more id (is_among id (ids ++ a.0 ∷ []))
    used_more ids used id = subst (IsUsed more id) (sym (list_any-append (nat_eq id) ids (a.0 ∷ []))) (by_parts (is_among id ids) (nat_eq id a.0) (used id) refl)
      where
        by_parts : (b c : Bool) → IsUsed all id b → nat_eq id a.0 ≡ c → IsUsed more id (b || (c || false))
        by_parts true c (k, lt, at) e = used_there id k lt at
        by_parts false true none e = (length all, omega (arith, length_push all a), λ d. subst (λ (b : Entry F). b.0 ≡ id) (sym (get_or_push all a d (length all) refl)) (sym ((Decides-eqb id a.0).0 e)))
        by_parts false false none e = All-push (λ b. b.0 ≢ id) all a none (λ same. absurd (true≢false (sym ((Decides-eqb id a.0).1 (sym same)) ∙ e)))

    -- and with one that is kept
    still_used : (j : ℕ) → j < length all → HoldsAt (λ b. b.0 ≡ a.0) all j → (id : ℕ) (b : Bool) → IsUsed all id b → IsUsed more id b
    still_used j here own id true (k, lt, at) = used_there id k lt at
    still_used j here own id false none = All-push (λ b. b.0 ≢ id) all a none (λ same. absurd (none j a here (own a ∙ same)))

    module _ (before after : SeenIds) (seen : AreSeen m all before) (low : a.0 < m) where
      -- a lookup that shares no bus with an earlier one has a lawful id exactly if it is new
      fresh_seen : ((k : ℕ) (d : Entry F) → k < length all → ¬ IsTrue (same_bus (bus_of_numbered (get_or all k d)) (bus_of_numbered a)))
          → ((q : List ℕ) → IsKnown more q (lookup (λ k. same_name q k.now) after.names.entries)) → (answer : Bool) → IsNewId before.ids.keys after.ids.keys a.0 answer → Sees m more after answer
      fresh_seen apart names answer new = by_use (is_among a.0 before.ids.keys) refl
        where
          by_use : (b : Bool) → is_among a.0 before.ids.keys ≡ b → Sees m more after answer
          by_use true e =
              let no : answer ≡ false = new.answer_is ∙ ap not e in
              let (k, lt, at) = subst (IsUsed all a.0) e (seen.ids a.0) in
              (λ yes. absurd (true≢false (sym yes ∙ no)), λ by_bus. absurd (apart k a lt ((last_agrees by_bus k lt).0 (at a))))
          by_use false e =
              let other : All (λ b. b.0 ≢ a.0) all = subst (IsUsed all a.0) e (seen.ids a.0) in
              let keys : after.ids.keys ≡ before.ids.keys ++ a.0 ∷ [] = new.keys ∙ (λ i. if e i then before.ids.keys else before.ids.keys ++ a.0 ∷ []) in (
                λ yes. record {
                  by_bus = record {
                    buses = apart_pairs all a seen.by_bus.buses (λ k d lt. other k d lt) apart;
                    below = All-push (λ b. b.0 < m) all a seen.by_bus.below low;
                  };
                  ids = λ id. subst (λ (ks : List ℕ). IsUsed more id (is_among id ks)) (sym keys) (used_more before.ids.keys seen.ids id);
                  names = names;
                },
                λ by_bus. new.answer_is ∙ ap not e,
              )

      -- so it is of a local one
      pub local_seen : bus_of_numbered a ≡ None → after.names.entries ≡ before.names.entries → (answer : Bool) → IsNewId before.ids.keys after.ids.keys a.0 answer → Sees m more after answer
      local_seen none names = fresh_seen
          (λ k d lt t. let (name, one, other) = shared (bus_of_numbered (get_or all k d)) (bus_of_numbered a) t in cc (sym none ∙ other))
          (λ q. subst (λ (es : List (Bor (List ℕ) × ℕ)). IsKnown more q (lookup (λ k. same_name q k.now) es)) (sym names)
          (still_known all a q (lookup (λ k. same_name q k.now) before.names.entries) (λ on. absurd (cc (sym none ∙ on))) (seen.names q)))

      -- a lookup on a bus has that of its bus, or else a new one
      pub bus_seen : (name : Bor (List ℕ)) → bus_of_numbered a ≡ Some name.now → (answer : Bool) → IsSeenOnBus name before after a.0 answer → Sees m more after answer
      bus_seen name on answer is = by_name (lookup (λ k. same_name name.now k.now) before.names.entries) (seen.names name.now) is.answer_is
        where
          names : (q : List ℕ) → IsKnown more q (lookup (λ k. same_name q k.now) after.names.entries)
          names = known_more all a name on before.names.entries after.names.entries is.names seen.names

          by_name : (o : Option ℕ) → IsKnown all name.now o → MatchOption o (IsNewId before.ids.keys after.ids.keys a.0 answer) (λ known. (after.ids.keys ≡ before.ids.keys) × (IsTrue answer ↔ (known ≡ a.0))) → Sees m more after answer
          by_name None none new = fresh_seen (λ k d lt t. let (other, of_x, of_a) = shared (bus_of_numbered (get_or all k d)) (bus_of_numbered a) t in none k d lt (of_x ∙ sym of_a ∙ on)) names answer new
          by_name (Some known) (j, here, known_at) (keys, says) = (
            λ yes.
                let same : known ≡ a.0 = says.0 yes in
                record {
                  by_bus = record {
                    buses = joined_pairs all a seen.by_bus.buses name.now j here (λ d. ((known_at d).0, (known_at d).1 ∙ same)) on;
                    below = All-push (λ b. b.0 < m) all a seen.by_bus.below low;
                  };
                  ids = λ id. subst (λ (ks : List ℕ). IsUsed more id (is_among id ks)) (sym keys) (still_used j here (λ d. (known_at d).1 ∙ same) id (is_among id before.ids.keys) (seen.ids id));
                  names = names;
                },
            λ by_bus. says.1 (sym (known_at a).1 ∙ (last_agrees by_bus j here).1 (share (bus_of_numbered (get_or all j a)) (bus_of_numbered a) name.now (known_at a).0 on)),
          )

  -- what is answered for the first of some lookups: that they are seen, or that the ids of all are not by bus
  abbrev Continues : List (Entry F) → List (Entry F) → SeenIds → Bool → Type 0
  Continues xs all seen answer = (IsTrue answer → AreSeen m xs seen) × (AreByBus all m → IsTrue answer)

  continued : (xs ys all : List (Entry F)) (seen : SeenIds) (answer : Bool) → all ≡ xs ++ ys → Sees m xs seen answer → Continues xs all seen answer
  continued xs ys all seen answer is sees = (sees.0, λ by_bus. sees.1 (front xs ys (subst (λ (zs : List (Entry F)). AreByBus zs m) is by_bus)))

  -- one lookup more of an AIR
  pub lookup_seen : (all : List (Entry F)) (ids : List ℕ) (lookups : List (Lookup F)) (i : ℕ) (l : Lookup F) (seen : SeenIds) (answer : Bool) → length ids ≡ length lookups → i < length lookups → l ≡ get_or lookups i l
      → Sees m ((all ++ take i (zip ids lookups)) ++ (get_or ids i 0, l) ∷ []) seen answer → Continues (all ++ take (i + 1) (zip ids lookups)) (all ++ zip ids lookups) seen answer
  lookup_seen all ids lookups i l seen answer as_many lt is sees =
      let zs = zip ids lookups in
      let within : i < length ids = omega (arith, lt, as_many) in
      let there = zip_at ids lookups i (get_or ids i 0) l as_many within (get_or_default ids i 0 (get_or ids i 0) within) is in
      let next = take_item zs i (get_or ids i 0, l) (omega (arith, lt, within, length-zip ids lookups)) there in
      continued (all ++ take (i + 1) zs) (drop (i + 1) zs) (all ++ zs) seen answer
      (ap (λ t. all ++ t) (sym (take-append-drop (i + 1) zs)) ∙ sym (append_assoc all (take (i + 1) zs) (drop (i + 1) zs)))
      (subst (λ (xs : List (Entry F)). Sees m xs seen answer) (append_assoc all (take i zs) ((get_or ids i 0, l) ∷ []) ∙ ap (λ t. all ++ t) (sym next)) sees)

  -- one AIR more
  module _ (ids : List (Vec ℕ Global)) (airs : List (Lookups F)) (i : ℕ) (seen : SeenIds) (answer : Bool) where
    abbrev entries : List ℕ × Lookups F → List (Entry F)
    entries p = zip p.0 (lookups_of p.1)

    pub air_seen : (list : Vec ℕ Global) (air : Lookups F) → length ids ≡ length airs → i < length airs → list ≡ get_or ids i list → air ≡ get_or airs i air
        → (own : List ℕ) (lookups : List (Lookup F)) → own ≡ list.items → lookups ≡ lookups_of air → Sees m (flat_map entries (take i (zip (lists_of ids) airs)) ++ zip own lookups) seen answer
        → Continues (flat_map entries (take (i + 1) (zip (lists_of ids) airs))) (lookups_with_ids (lists_of ids) airs) seen answer
    air_seen list air as_many lt list_is air_is own lookups own_is lookups_are sees =
        let ps = zip (lists_of ids) airs in
        let lists_are : length (lists_of ids) ≡ length airs = length-map ids (λ l. l.items) ∙ as_many in
        let there = zip_at (lists_of ids) airs i list.items air lists_are (omega (arith, lt, lists_are)) (mapped_at (λ l. l.items) ids i list (omega (arith, lt, as_many)) list_is) air_is in
        let within : i < length ps = omega (arith, lt, lists_are, length-zip (lists_of ids) airs) in
        let rest = flat_map entries (drop (i + 1) ps) in
        let longer : flat_map entries (take i ps) ++ zip own lookups ≡ flat_map entries (take (i + 1) ps) = (λ j. flat_map entries (take i ps) ++ zip (own_is j) (lookups_are j)) ∙ sym (flat_next entries ps i (list.items, air) within there) in
        continued (flat_map entries (take (i + 1) ps)) rest (flat_map entries ps) seen answer
        (flat_split entries ps i (list.items, air) within there ∙ sym (append_assoc (flat_map entries (take i ps)) (entries (list.items, air)) rest) ∙ ap (λ t. t ++ rest) (sym (flat_next entries ps i (list.items, air) within there)))
        (subst (λ (xs : List (Entry F)). Sees m xs seen answer) longer sees)
