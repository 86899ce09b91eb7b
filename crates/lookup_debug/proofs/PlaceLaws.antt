-- The places of listed tuples, contribution by contribution.
use Rattle.std.proofs.Common.{◌≡◌, ◌++◌, [], ◌∷◌, Bool, false, List, Some, ℕ, cond, is_some, length, map, position, refl, set, slice_get, subst, sym, take, ap, ◌∙◌, Decides}
use Rattle.std.proofs.lemmas.List.{append-nil, map-append}
use Rattle.std.proofs.lemmas.List.Elements.{filter-append}
use Rattle.std.proofs.lemmas.Slice.Eq.{slice_eq-Decides}
use Rattle.std.specs.Borrow.{Bor}
use Rattle.std.specs.Cmp.Lexicographic.{pointwise}
use Rattle.std.specs.List.{IsDistinct}
use Rattle.std.specs.Map.{lookup}
use Rattle.list_laws.proofs.Images.{from_map, map_at}
use Rattle.list_laws.proofs.Items.{some_is}
use Rattle.field.specs.Ring.{Ring}
use Rattle.lookup_debug.specs.BusTable.{TupleEntry, saturated_usize, entry_of, tuple_places}
use Rattle.lookup_debug.specs.Contributions.{Contribution, SentLocation}
use Rattle.lookup_debug.specs.Mismatch.{of_tuple}
use Rattle.lookup_debug.specs.declared.unbalanced.UnbalancedTuple.{UnbalancedTuple}
use Rattle.lookup_debug.specs.internal.Kept.{IsKept}
use Rattle.lookup_debug.specs.internal.Places.{placed_entry}
use Rattle.lookup_debug.proofs.ListedKeys.{all_same, found_alone, not_found, one_changed}

module _ {F : Type 0} (R : Ring F) (eq : F → F → Bool) (eq_is : (a b : F) → Decides (eq a b) (a ≡ b)) where
  decides : (a b : List F) → Decides (pointwise eq a b) (a ≡ b)
  decides a b = slice_eq-Decides eq_is a b (pointwise eq a b) refl

  module _ (cs : List (Contribution F)) (c : Contribution F) (tuple : List F) where
    abbrev place : Contribution F → SentLocation × F
    place d = (d.location, d.amount)

    split : tuple_places R eq (cs ++ c ∷ []) tuple ≡ tuple_places R eq cs tuple ++ tuple_places R eq (c ∷ []) tuple
    split =
        ap (map place) (filter-append (λ (d : Contribution F). pointwise eq tuple d.tuple) cs (c ∷ []))
        ∙ map-append place (of_tuple R eq cs tuple) (of_tuple R eq (c ∷ []) tuple)

    -- one more contribution of a tuple has one more place
    places-own : tuple ≡ c.tuple → tuple_places R eq (cs ++ c ∷ []) tuple ≡ tuple_places R eq cs tuple ++ (c.location, c.amount) ∷ []
    places-own is =
        split ∙ ap (λ b. tuple_places R eq cs tuple ++ map place (cond b (c ∷ []) [])) ((decides tuple c.tuple).1 is)

    -- and one of another tuple changes nothing
    places-other : pointwise eq tuple c.tuple ≡ false → tuple_places R eq (cs ++ c ∷ []) tuple ≡ tuple_places R eq cs tuple
    places-other is =
        split
        ∙ ap (λ b. tuple_places R eq cs tuple ++ map place (cond b (c ∷ []) [])) is
        ∙ append-nil (tuple_places R eq cs tuple)

  module _ (limit : ℕ) where
    -- an entry with the first of these places
    pub entry_is : (cs : List (Contribution F)) (u : UnbalancedTuple F) (e : Bor (List F) × F) → u.tuple.items ≡ e.0.now → u.net ≡ e.1
        → IsKept limit (tuple_places R eq cs e.0.now) u → entry_of u ≡ placed_entry R eq limit cs e
    entry_is cs u e tuple_is net_is kept =
        λ j. record { tuple = tuple_is j; net = net_is j; place_count = kept.0 j; places = kept.1 j }

    -- an entry for another number of contributions is the same where their places are
    same_entry : (cs ds : List (Contribution F)) (e : Bor (List F) × F) → tuple_places R eq ds e.0.now ≡ tuple_places R eq cs e.0.now → placed_entry R eq limit cs e ≡ placed_entry R eq limit ds e
    same_entry cs ds e same =
        let ps : tuple_places R eq cs e.0.now ≡ tuple_places R eq ds e.0.now = sym same in
        λ j. record { tuple = e.0.now; net = e.1; place_count = saturated_usize (length (ps j)); places = take limit (ps j) }

    module _ (cs : List (Contribution F)) (c : Contribution F) (es : List (Bor (List F) × F)) (us : List (UnbalancedTuple F)) (so_far : map entry_of us ≡ map (placed_entry R eq limit cs) es) where
      abbrev keys : List (Bor (List F))
      keys = map (λ e. e.0) es

      abbrev is_tuple : Bor (List F) → Bool
      is_tuple k = pointwise eq c.tuple k.now

      -- a contribution of a tuple that is not listed
      pub unlisted_step : is_some (lookup is_tuple es) ≡ false → map entry_of us ≡ map (placed_entry R eq limit (cs ++ c ∷ [])) es
      unlisted_step none =
          all_same entry_of (placed_entry R eq limit cs) (placed_entry R eq limit (cs ++ c ∷ [])) us es
          (λ j e there. same_entry cs (cs ++ c ∷ []) e (places-other cs c e.0.now (not_found (pointwise eq) decides (λ (k : Bor (List F)). k.now) c.tuple es none j e.0 (map_at (λ (d : Bor (List F) × F). d.0) es j e there))))
          so_far

      -- and of one that is
      pub listed_step : IsDistinct (λ (a b : Bor (List F)). pointwise eq a.now b.now) keys
          → (i : ℕ) → position is_tuple keys ≡ Some i
          → (u now : UnbalancedTuple F) → slice_get us i ≡ Some u → now.tuple ≡ u.tuple → now.net ≡ u.net
          → ((places : List (SentLocation × F)) → IsKept limit places u → IsKept limit (places ++ (c.location, c.amount) ∷ []) now)
          → map entry_of (set us i now) ≡ map (placed_entry R eq limit (cs ++ c ∷ [])) es
      listed_step distinct i at u now there tuple_is net_is push =
          let (k, at_key, is, others) = found_alone (pointwise eq) decides (λ (b : Bor (List F)). b.now) c.tuple keys distinct i at in
          let (e, at_entry, key_is) = from_map (λ (d : Bor (List F) × F). d.0) es i k at_key in
          let entry : entry_of u ≡ placed_entry R eq limit cs e =
          some_is (entry_of u) (placed_entry R eq limit cs e) (sym (map_at entry_of us i u there) ∙ ap (λ t. slice_get t i) so_far ∙ map_at (placed_entry R eq limit cs) es i e at_entry) in
          let own : e.0.now ≡ c.tuple = ap (λ (b : Bor (List F)). b.now) key_is ∙ sym is in
          let kept : IsKept limit (tuple_places R eq (cs ++ c ∷ []) e.0.now) now =
          subst (λ ps. IsKept limit ps now) (sym (places-own cs c e.0.now own))
          (push (tuple_places R eq cs e.0.now) (ap (λ (t : TupleEntry F). t.place_count) entry, ap (λ (t : TupleEntry F). t.places) entry)) in
          one_changed entry_of (placed_entry R eq limit cs) (placed_entry R eq limit (cs ++ c ∷ [])) us es i now e at_entry
          (entry_is (cs ++ c ∷ []) now e (ap (λ v. v.items) tuple_is ∙ ap (λ (t : TupleEntry F). t.tuple) entry) (net_is ∙ ap (λ (t : TupleEntry F). t.net) entry) kept)
          (λ j other at_other ne. same_entry cs (cs ++ c ∷ []) other (places-other cs c other.0.now (others j other.0 (map_at (λ (d : Bor (List F) × F). d.0) es j other at_other) ne)))
          so_far
