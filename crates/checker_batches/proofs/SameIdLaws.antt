-- The ids of lookups that may be joined are those of their buses.
use Rattle.std.proofs.Common.{◌≡◌, ◌&&◌, ◌++◌, ℕ, Bool, true, not, List, Option, None, Some, All, map, get_or, unwrap_or, refl, sym, ap, ◌∙◌}
use Rattle.std.proofs.lemmas.List.Elements.{All-append, All-from_recursion, All-map, Contains-append_left, Contains-append_right, Contains-get_or, recursion_from_All}
use Rattle.std.specs.List.{AllByRecursion, Contains}
use Rattle.std.specs.Map.{lookup}
use Rattle.std.specs.Option.{is_some}
use Rattle.lookup_model.specs.Batches.Messages.{id_of}
use Rattle.lookup_model.specs.Names.{is_named}
use Rattle.lookup_model.specs.Outline.{bus_of}
use Rattle.lookup_model.specs.declared.types.Lookup.{Lookup}
use Rattle.lookup_model.proofs.Names.{same_name-Decides}
use Rattle.lookup.specs.KeptByPacking.{HasIdOfBus, HaveSameIds, unjoined_ids}
use Rattle.checker_batches.proofs.Members.{in_image, lookup_found}
use Rattle.checker_batches.specs.internal.SameIds.{Agree, AgreesWith}

-- there are no flags, and a bus of this name
joins_is : {A : Type 0} (name : List ℕ) (flags : Option A) (bus : Option (List ℕ)) → (not (is_some flags) && is_named name bus) ≡ true → (flags ≡ None) × (bus ≡ Some name)
joins_is name None (Some other) e = (refl, ap Some (sym ((same_name-Decides name other).0 e)))
joins_is name flags bus e = absurd (cc e)

module _ {F : Type 0} where
  -- whether a lookup without flags is on the bus of this name
  abbrev joins : List ℕ → Lookup F → Bool
  joins name l = not (is_some l.flags) && is_named name (bus_of l.kind)

  module _ (ids_before ids_after : List ℕ) (before after : List (Lookup F)) where
    -- the lookups before and after with their ids
    abbrev with_id : List ℕ → Lookup F → Lookup F × ℕ
    with_id ids l = (l, id_of ids l)

    abbrev all_with_ids : List (Lookup F × ℕ)
    all_with_ids = map (with_id ids_before) before ++ map (with_id ids_after) after

    -- the id of a bus: that of its first lookup that may be joined
    abbrev bus_id : List ℕ → ℕ
    bus_id name = unwrap_or (lookup (joins name) all_with_ids) 0

    -- a lookup whose id all have that join has the id of its bus
    of_bus : (ids : List ℕ) (l : Lookup F) → Contains all_with_ids (with_id ids l) → ((name : List ℕ) → bus_of l.kind ≡ Some name → l.flags ≡ None
        → All (λ m. joins name m ≡ true → id_of ids_before m ≡ id_of ids l) before × All (λ m. joins name m ≡ true → id_of ids_after m ≡ id_of ids l) after) → HasIdOfBus bus_id (id_of ids) l
    of_bus ids l there share name on none =
        let Same = λ (e : Lookup F × ℕ). joins name e.0 ≡ true → e.1 ≡ id_of ids l in
        let all = All-append Same (map (with_id ids_before) before) (map (with_id ids_after) after) (All-map Same (with_id ids_before) before (share name on none).0) (All-map Same (with_id ids_after) after (share name on none).1) in
        let joined : joins name l ≡ true = (λ i. not (is_some (none i)) && is_named name (on i)) ∙ (same_name-Decides name name).1 refl in
        ap (λ o. unwrap_or o 0) (sym (lookup_found (joins name) all_with_ids l (id_of ids l) there joined (recursion_from_All Same all_with_ids all)))

    -- lookups that agree on their buses have the ids of these
    pub ids_same : Agree ids_before before ids_after after
        → unjoined_ids (id_of ids_before) before ≡ unjoined_ids (id_of ids_after) after → HaveSameIds (id_of ids_before) before (id_of ids_after) after
    ids_same agree others = record {
      bus_id = bus_id;
      by_bus_before = recursion_from_All (HasIdOfBus bus_id (id_of ids_before)) before (λ k d lt.
          of_bus ids_before (get_or before k d) (Contains-append_left _ _ _ (in_image (with_id ids_before) before _ (Contains-get_or before k d lt))) (λ name on none. (
            λ j e below joined. let (free, on_too) = joins_is name _ _ joined in sym ((agree.0 k d lt).each j e below (none, free, (name, on, on_too))),
            λ j e below joined. let (free, on_too) = joins_is name _ _ joined in sym ((agree.1 k d lt).each j e below (none, free, (name, on, on_too))),
          )));
      by_bus_after = recursion_from_All (HasIdOfBus bus_id (id_of ids_after)) after (λ k d lt.
          of_bus ids_after (get_or after k d) (Contains-append_right _ _ _ (in_image (with_id ids_after) after _ (Contains-get_or after k d lt))) (λ name on none. (
            λ j e below joined. let (free, on_too) = joins_is name _ _ joined in (agree.1 j e below).each k d lt (free, none, (name, on_too, on)),
            λ j e below joined. let (free, on_too) = joins_is name _ _ joined in sym ((agree.2 k d lt).each j e below (none, free, (name, on, on_too))),
          )));
      others = others;
    }

  -- lookups that have the ids of their buses agree
  pub ids_agree : (bus_id : List ℕ → ℕ) (ids others : List ℕ) (xs ys : List (Lookup F)) → AllByRecursion (HasIdOfBus bus_id (id_of ids)) xs → AllByRecursion (HasIdOfBus bus_id (id_of others)) ys → All (AgreesWith ids others ys) xs
  ids_agree bus_id ids others xs ys first second k d lt = record {
    each = λ j e below (free, free_too, (name, on, on_too)).
        All-from_recursion (HasIdOfBus bus_id (id_of ids)) xs first k d lt name on free ∙ sym (All-from_recursion (HasIdOfBus bus_id (id_of others)) ys second j e below name on_too free_too);
  }
