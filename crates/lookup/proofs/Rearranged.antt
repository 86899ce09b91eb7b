-- Lists in another order, and the parts that their items are mapped to.
use Rattle.std.proofs.Common.{◌≡◌, ℕ, Bool, true, false, not, ◌&&◌, List, [], ◌∷◌, ◌++◌, Option, None, Some, refl, subst, arith}
use Rattle.std.proofs.lemmas.Bool.{false≢true}
use Rattle.std.proofs.lemmas.List.{append_assoc}
use Rattle.std.proofs.lemmas.List.Sorted.{IsPermutation-append_comm, IsPermutation-append_left, IsPermutation-append_right, IsPermutation-refl, IsPermutation-trans}
use Rattle.std.specs.List.{AllByRecursion, cons_option, filter, filter_map, flat_map, list_any}
use Rattle.std.specs.List.Sorted.{IsPermutation}
use Rattle.std.specs.Option.{is_some}
use Rattle.lookup_model.proofs.Lookups.Regrouping.{Holds, IsSeparate, first_seen_holds}
use Rattle.lookup_messages.proofs.NetEntries.{turned}
use Rattle.lookup_model.specs.Outline.{Outline}
use Rattle.lookup.specs.Buses.{bus_names, on_bus}
use Rattle.lookup_model.specs.Names.{is_named, same_name}
use Rattle.lookup.specs.Packing.{is_additive}
use Rattle.lookup_model.proofs.Names.{same_name-Decides}

-- a first part moved behind the second
moved : {M : Type 0} (zs xs ys : List M) → IsPermutation (zs ++ (xs ++ ys)) (xs ++ (zs ++ ys))
moved {M} zs xs ys =
    subst (λ (t : List M). IsPermutation t (xs ++ (zs ++ ys))) (append_assoc zs xs ys)
    (subst (λ (t : List M). IsPermutation ((zs ++ xs) ++ ys) t) (append_assoc xs zs ys) (IsPermutation-append_left ys (zs ++ xs) (xs ++ zs) (IsPermutation-append_comm zs xs)))

module _ {A M : Type 0} (f : A → List M) where
  -- the items that pass a test come first, and the others follow
  pub parted : (p : A → Bool) (xs : List A) → IsPermutation (flat_map f xs) (flat_map f (filter p xs) ++ flat_map f (filter (λ x. not (p x)) xs))
  parted p [] = IsPermutation-refl []
  parted p (x ∷ xs) =
      let kept = filter p xs in
      let others = filter (λ y. not (p y)) xs in
      let first = IsPermutation-append_right (f x) (flat_map f xs) _ (parted p xs) in
      let second = IsPermutation-trans _ _ _ first (moved (f x) (flat_map f kept) (flat_map f others)) in
      grind (arith, first, second, append_assoc (f x) (flat_map f kept) (flat_map f others))

-- a lookup is on one of the buses of these names
abbrev pub IsAmong : {E : Type 0} → List (List ℕ) → Outline E → Type 0
IsAmong names o = list_any (λ name. is_named name o.bus) names ≡ true

-- a lookup on one bus is on no other
not_named : (name other : List ℕ) → same_name name other ≡ false → (bus : Option (List ℕ)) → is_named name bus ≡ true → is_named other bus ≡ false
not_named name other apart None e = refl
not_named name other apart (Some b) e = grind (arith, e, apart, same_name-Decides name b, same_name-Decides other b, turned same_name same_name-Decides other name)

module _ {E : Type 0} where
  -- without the lookups of one bus another has all of its own
  on_other : (name other : List ℕ) → same_name name other ≡ false → (os : List (Outline E)) → on_bus other (filter (λ o. not (is_named name o.bus)) os) ≡ on_bus other os
  on_other name other apart [] = refl
  on_other name other apart (o ∷ os) = grind (arith, on_other name other apart os, not_named name other apart o.bus)

  -- lookups that are not on the first bus are on one of the others
  among_others : (name : List ℕ) (names : List (List ℕ)) (os : List (Outline E)) → AllByRecursion (IsAmong (name ∷ names)) os → AllByRecursion (IsAmong names) (filter (λ o. not (is_named name o.bus)) os)
  among_others name names [] among = tt
  among_others name names (o ∷ os) among = grind (arith, among_others name names os among.1, among.0)

  module _ {M : Type 0} (f : Outline E → List M) where
    same_groups : (name : List ℕ) (names : List (List ℕ)) (os : List (Outline E)) → AllByRecursion (λ other. same_name name other ≡ false) names
        → flat_map (λ n. flat_map f (on_bus n (filter (λ o. not (is_named name o.bus)) os))) names ≡ flat_map (λ n. flat_map f (on_bus n os)) names
    same_groups name [] os apart = refl
    same_groups name (n ∷ ns) os apart = λ i. flat_map f (on_other name n apart.0 os i) ++ same_groups name ns os apart.1 i

    -- lookups bus by bus
    pub grouped : (names : List (List ℕ)) (os : List (Outline E)) → IsSeparate same_name names → AllByRecursion (IsAmong names) os → IsPermutation (flat_map f os) (flat_map (λ name. flat_map f (on_bus name os)) names)
    grouped [] [] separate among = IsPermutation-refl []
    grouped [] (o ∷ os) separate among = absurd (false≢true among.0)
    grouped (name ∷ names) os separate among =
        let left = filter (λ (o : Outline E). not (is_named name o.bus)) os in
        IsPermutation-trans _ _ _ (parted f (λ o. is_named name o.bus) os)
        (IsPermutation-append_right (flat_map f (on_bus name os)) (flat_map f left) (flat_map (λ n. flat_map f (on_bus n os)) names)
        (subst (λ (t : List M). IsPermutation (flat_map f left) t) (same_groups name names os separate.0) (grouped names left separate.1 (among_others name names os among))))

  -- a lookup that may be joined is on one of the buses that are seen
  pub among_names : (os : List (Outline E)) → AllByRecursion (λ o. is_additive o ≡ true) os → AllByRecursion (IsAmong (bus_names os)) os
  among_names os additive = each os additive (first_seen_holds same_name same_name-Decides (filter_map (λ o. o.bus) os))
    where
      each : (ps : List (Outline E)) → AllByRecursion (λ o. is_additive o ≡ true) ps → AllByRecursion (Holds same_name (bus_names os)) (filter_map (λ o. o.bus) ps) → AllByRecursion (IsAmong (bus_names os)) ps
      each [] all held = tt
      each (p ∷ ps) all held = by_bus p.bus (not (is_some p.flags)) all.0 held (each ps all.1)
        where
          by_bus : (bus : Option (List ℕ)) (b : Bool) → (is_some bus && b) ≡ true → AllByRecursion (Holds same_name (bus_names os)) (cons_option bus (filter_map (λ o. o.bus) ps))
              → (AllByRecursion (Holds same_name (bus_names os)) (filter_map (λ o. o.bus) ps) → AllByRecursion (IsAmong (bus_names os)) ps)
              → (list_any (λ name. is_named name bus) (bus_names os) ≡ true) × AllByRecursion (IsAmong (bus_names os)) ps
          by_bus None b e h rest = absurd (false≢true e)
          by_bus (Some name) b e h rest = (h.0, rest h.1)
