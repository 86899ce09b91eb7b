-- The places of listed tuples while they are found.
use Rattle.std.specs.Prelude.{◌≡◌, ◌++◌, ℕ, Bool, List, length, map, refl, take}
use Rattle.std.specs.Borrow.{Bor}
use Rattle.std.proofs.Common.{◌∙◌, append_assoc, subst, sym}
use Rattle.std.proofs.lemmas.List.{append-nil}
use Rattle.field.specs.Ring.{Ring}
use Rattle.indexmap.specs.IndexMap.{index_map_len}
use Rattle.lookup_debug.specs.BusTable.{TupleEntry, saturated_usize, entry_of, tuple_places}
use Rattle.lookup_debug.specs.Contributions.{Contribution}
use Rattle.lookup_debug.specs.declared.places.TuplePlaces.{TuplePlaces}
use Rattle.lookup_debug.specs.internal.Walks.{IsWalk}

-- there is an entry for each of the listed tuples
abbrev pub HasEntries : {F : Type 0} → TuplePlaces F → Type 0
HasEntries s = length s.tuples.items ≡ index_map_len s.listed

module _ {F : Type 0} (R : Ring F) (eq : F → F → Bool) where
  -- the entry of a tuple with this net, with the first of its places in some contributions
  abbrev pub placed_entry : ℕ → List (Contribution F) → Bor (List F) × F → TupleEntry F
  placed_entry limit cs e = record {
    tuple = e.0.now;
    net = e.1;
    place_count = saturated_usize (length (tuple_places R eq cs e.0.now));
    places = take limit (tuple_places R eq cs e.0.now);
  }

  -- the places of the listed tuples are those in some contributions
  abbrev pub HasPlaces : TuplePlaces F → List (Contribution F) → Type 0
  HasPlaces s cs = map entry_of s.tuples.items ≡ map (placed_entry s.limit cs) s.listed.entries

  -- If the places were those in some contributions, they are those in these followed by more after.
  pub record FindsPlaces (before after : TuplePlaces F) (more : List (Contribution F)) : Type 0 where
    pub entries : HasEntries after
    pub listed : after.listed ≡ before.listed
    pub limit : after.limit ≡ before.limit
    pub places : (cs : List (Contribution F)) → HasPlaces before cs → HasPlaces after (cs ++ more)

  -- the second walk, which finds the places of the listed tuples
  pub places_walk : IsWalk HasEntries FindsPlaces
  places_walk = record {
    leaves = λ a b xs done. done.entries;
    rests = λ a ready. record {
      entries = ready;
      listed = refl;
      limit = refl;
      places = λ cs has. subst (HasPlaces a) (sym (append-nil cs)) has;
    };
    joins = λ a b c xs ys first then. record {
      entries = then.entries;
      listed = then.listed ∙ first.listed;
      limit = then.limit ∙ first.limit;
      places = λ cs has. subst (HasPlaces c) (append_assoc cs xs ys) (then.places (cs ++ xs) (first.places cs has));
    };
  }
