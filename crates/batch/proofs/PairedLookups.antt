-- Lookups with their ids before and after packing, paired by their buses: two pairs have one id before exactly if
-- they have one after. So there is a renaming of ids between them.
use Rattle.std.proofs.Common.{◌≡◌, ◌<◌, ◌++◌, ℕ, Bool, true, false, cond, not, inl, inr, All, IsTrue, Option, None, Some, List, [], ◌∷◌, length, map, get_or, unwrap_or, refl, sym, ap, subst, subst₂, ◌∙◌, arith}
use Rattle.std.proofs.lemmas.List.Elements.{All-append, All-contains, All-contains_itself, All-cons, All-filter, All-map, All-nil, All-weaker, AllZip-get_or, Contains-append_cases, Contains-append_left, Contains-append_right, Contains-get_or, recursion_from_All}
use Rattle.std.proofs.lemmas.List.Kept.{AllPairs-filter}
use Rattle.std.proofs.lemmas.Map.Views.{Contains-from_lookup}
use Rattle.std.proofs.lemmas.Slice.Zip.{get_or-zip, length-zip}
use Rattle.std.specs.List.{AllByRecursion, AllPairs, AllZip, Contains, filter, flat_map, zip}
use Rattle.std.specs.Map.{lookup}
use Rattle.list_laws.proofs.Each.{All-parts}
use Rattle.lookup_model.specs.Outline.{fields_of}
use Rattle.lookup.specs.Packing.{is_additive}
use Rattle.checker_batches.proofs.Members.{in_image, lookup_found}
use Rattle.checker_batches.specs.Renamed.{IsInjective}
use Rattle.batch.proofs.Members.{from_image, in_part, members, same_images}
use Rattle.batch.proofs.Renaming.{Agree, AllAgree, rename_by, renames, renames_apart}
use Rattle.batch.proofs.SharedBuses.{Entry, IsByBus, same_id, same_label, share, shared}
use Rattle.batch.specs.Order.{bus_of_numbered, same_bus}

-- whether a lookup passes through packing
abbrev pub passes : {F : Type 0} → Entry F → Bool
passes a = not (is_additive (fields_of a.1))

-- a lookup on a bus has the bus's id
abbrev pub HasBusId : {F : Type 0} → (List ℕ → ℕ) → Entry F → Type 0
HasBusId bus_id a = (name : List ℕ) → bus_of_numbered a ≡ Some name → a.0 ≡ bus_id name

-- the id of the first lookup on a bus
module _ {F : Type 0} (zs : List (Entry F)) where
  abbrev labelled : Entry F → Option (List ℕ) × ℕ
  labelled a = (bus_of_numbered a, a.0)

  abbrev id_on : List ℕ → Option ℕ
  id_on name = lookup (same_bus (Some name)) (map labelled zs)

  on_is : (name : List ℕ) (id : ℕ) → id_on name ≡ Some id → (a : Entry F) × Contains zs a × (bus_of_numbered a ≡ Some name) × (a.0 ≡ id)
  on_is name id is =
      let exact = λ (o p : Option (List ℕ)) (t : same_bus o p ≡ true). (let (n, one, other) = shared o p t in one ∙ sym other) in
      let (a, there, same) = from_image labelled zs (Some name, id) (Contains-from_lookup exact (Some name) id (map labelled zs) is) in
      (a, there, ap (λ (p : Option (List ℕ) × ℕ). p.0) same, ap (λ (p : Option (List ℕ) × ℕ). p.1) same)

  -- all lookups on the bus have it
  has_id_on : AllPairs IsByBus zs → (a : Entry F) → Contains zs a → (name : List ℕ) → bus_of_numbered a ≡ Some name → id_on name ≡ Some a.0
  has_id_on buses a there name on =
      let Same = λ (e : Option (List ℕ) × ℕ). same_bus (Some name) e.0 ≡ true → e.1 ≡ a.0 in
      lookup_found (same_bus (Some name)) (map labelled zs) (bus_of_numbered a) a.0 (in_image labelled zs a there) (share (Some name) (bus_of_numbered a) name refl on)
      (recursion_from_All Same (map labelled zs) (All-map Same labelled zs (λ i d lt t.
      let (other, one, on_too) = shared (Some name) (bus_of_numbered (get_or zs i d)) t in
      same_id zs buses (get_or zs i d) a (Contains-get_or zs i d lt) there name (on_too ∙ sym one) on)))

module _ {F : Type 0} (xs ys : List (Entry F)) (buses : AllPairs IsByBus xs) (buses_after : AllPairs IsByBus ys) (same : map bus_of_numbered (filter passes xs) ≡ map bus_of_numbered (filter passes ys)) where
  -- what a pair of a lookup before and one after has to be
  record IsPaired (p : Entry F × Entry F) : Type 0 where
    pub before : Contains xs p.0
    pub after : Contains ys p.1
    pub one_bus : bus_of_numbered p.0 ≡ bus_of_numbered p.1

  abbrev numbers : Entry F × Entry F → ℕ × ℕ
  numbers p = (p.0.0, p.1.0)

  -- lookups that pass through, one by one
  abbrev us : List (Entry F)
  us = filter passes xs

  abbrev vs : List (Entry F)
  vs = filter passes ys

  abbrev passing_pairs : List (Entry F × Entry F)
  passing_pairs = zip us vs

  -- lookups that share a bus
  abbrev beside : Entry F → Entry F → List (Entry F × Entry F)
  beside a b = cond (same_bus (bus_of_numbered a) (bus_of_numbered b)) ((a, b) ∷ []) []

  abbrev bus_pairs : List (Entry F × Entry F)
  bus_pairs = flat_map (λ a. flat_map (beside a) ys) xs

  abbrev all_pairs : List (Entry F × Entry F)
  all_pairs = passing_pairs ++ bus_pairs

  one_by_one : AllZip (λ a b. bus_of_numbered a ≡ bus_of_numbered b) us vs
  one_by_one = same_images bus_of_numbered bus_of_numbered us vs same

  abbrev IsOnBus : Entry F × Entry F → Type 0
  IsOnBus p = IsPaired p × ((name : List ℕ) × (bus_of_numbered p.0 ≡ Some name))

  bus_paired : All IsOnBus bus_pairs
  bus_paired = All-parts IsOnBus (λ a. flat_map (beside a) ys) xs (λ i d lt.
      All-parts IsOnBus (beside (get_or xs i d)) ys (λ j e within. one (get_or xs i d) (get_or ys j e) (Contains-get_or xs i d lt) (Contains-get_or ys j e within)))
    where
      one : (a b : Entry F) → Contains xs a → Contains ys b → All IsOnBus (beside a b)
      one a b before after = (elim (same_bus (bus_of_numbered a) (bus_of_numbered b)) as (λ t. same_bus (bus_of_numbered a) (bus_of_numbered b) ≡ t → All IsOnBus (cond t ((a, b) ∷ []) [])) [
        | true ↦ λ t.
            let (name, of_a, of_b) = shared (bus_of_numbered a) (bus_of_numbered b) t in
            All-cons IsOnBus (a, b) [] (record { before = before; after = after; one_bus = of_a ∙ sym of_b }, (name, of_a)) (All-nil IsOnBus)
        | false ↦ λ t. All-nil IsOnBus
      ]) refl

  module _ (i : ℕ) (d : Entry F × Entry F) (lt : i < length passing_pairs) where
    in_us : i < length us
    in_us = omega (arith, lt, length-zip us vs)

    in_vs : i < length vs
    in_vs = omega (arith, lt, length-zip us vs)

    pair_is : (get_or us i d.0, get_or vs i d.1) ≡ get_or passing_pairs i d
    pair_is = sym (get_or-zip us vs i d in_us in_vs)

    label_is : bus_of_numbered (get_or us i d.0) ≡ bus_of_numbered (get_or vs i d.1)
    label_is = AllZip-get_or (λ a b. bus_of_numbered a ≡ bus_of_numbered b) us vs i d.0 d.1 one_by_one in_us

    passing_paired : IsPaired (get_or passing_pairs i d)
    passing_paired = subst IsPaired pair_is (record {
      before = All-filter passes (Contains xs) xs (All-contains_itself xs) i d.0 in_us;
      after = All-filter passes (Contains ys) ys (All-contains_itself ys) i d.1 in_vs;
      one_bus = label_is;
    })

  paired : All IsPaired all_pairs
  paired = All-append IsPaired passing_pairs bus_pairs passing_paired (All-weaker IsOnBus IsPaired (λ p on. on.0) bus_pairs bus_paired)

  -- pairs of lookups that pass through agree by their places
  pairs_agree : AllPairs (λ p q. Agree (numbers p) (numbers q)) passing_pairs
  pairs_agree i j d before within =
      let first : i < length passing_pairs = omega (arith, before, within) in
      let u = AllPairs-filter IsByBus passes xs buses i j d.0 before (in_us j d within) in
      let v = AllPairs-filter IsByBus passes ys buses_after i j d.1 before (in_vs j d within) in
      subst₂ (λ (p q : Entry F × Entry F). Agree (numbers p) (numbers q)) (pair_is i d first) (pair_is j d within) (
        (λ e. v.1 (subst₂ (λ o p. IsTrue (same_bus o p)) (label_is i d first) (label_is j d within) (u.0 e))),
        (λ e. u.1 (subst₂ (λ o p. IsTrue (same_bus o p)) (sym (label_is i d first)) (sym (label_is j d within)) (v.0 e))),
      )

  turned : (p q : ℕ × ℕ) → Agree p q → Agree q p
  turned p q agree = (λ e. sym (agree.0 (sym e)), λ e. sym (agree.1 (sym e)))

  -- a pair on a bus agrees with every other one
  on_bus_agrees : (p q : Entry F × Entry F) → IsOnBus p → IsPaired q → Agree (numbers p) (numbers q)
  on_bus_agrees p q (one, (name, on)) other = (
    (λ e.
        same_id ys buses_after p.1 q.1 one.after other.after name (sym one.one_bus ∙ on) (sym other.one_bus ∙ sym (same_label xs buses p.0 q.0 one.before other.before e) ∙ on)),
    (λ e.
        same_id xs buses p.0 q.0 one.before other.before name on (other.one_bus ∙ sym (same_label ys buses_after p.1 q.1 one.after other.after e) ∙ sym one.one_bus ∙ on)),
  )

  all_agree : (p q : Entry F × Entry F) → Contains all_pairs p → Contains all_pairs q → Agree (numbers p) (numbers q)
  all_agree p q one other = elim (Contains-append_cases passing_pairs bus_pairs p one) [
    | inr bus ↦ on_bus_agrees p q (All-contains IsOnBus bus_pairs p bus_paired bus) (All-contains IsPaired all_pairs q paired other)
    | inl passing ↦ elim (Contains-append_cases passing_pairs bus_pairs q other) [
      | inr bus ↦ turned (numbers q) (numbers p) (on_bus_agrees q p (All-contains IsOnBus bus_pairs q bus_paired bus) (All-contains IsPaired all_pairs p paired one))
      | inl passing_too ↦ elim (members (λ a b. Agree (numbers a) (numbers b)) passing_pairs pairs_agree p q passing passing_too) [
        | inl e ↦ (λ _. ap (λ (r : Entry F × Entry F). r.1.0) e, λ _. ap (λ (r : Entry F × Entry F). r.0.0) e)
        | inr (inl agree) ↦ agree
        | inr (inr agree) ↦ turned (numbers q) (numbers p) agree
      ]
    ]
  ]

  -- so do the numbers of all pairs
  numbers_agree : AllAgree (map numbers all_pairs)
  numbers_agree m n one other =
      let (p, p_there, m_is) = from_image numbers all_pairs m one in
      let (q, q_there, n_is) = from_image numbers all_pairs n other in
      subst₂ Agree m_is n_is (all_agree p q p_there q_there)

  module _ (most : ℕ) (below : All (λ b. b.0 < most) ys) where
    abbrev pub rename : ℕ → ℕ
    rename = rename_by (map numbers all_pairs) most

    -- it keeps ids apart
    pub rename_apart : IsInjective rename
    rename_apart = renames_apart (map numbers all_pairs) most numbers_agree (λ n there.
        let (p, p_there, is) = from_image numbers all_pairs n there in
        subst (λ (r : ℕ × ℕ). r.1 < most) is (All-contains (λ b. b.0 < most) ys p.1 below (All-contains IsPaired all_pairs p paired p_there).after))

    renamed_pair : (p : Entry F × Entry F) → Contains all_pairs p → rename p.0.0 ≡ p.1.0
    renamed_pair p there = renames (map numbers all_pairs) most numbers_agree (numbers p) (in_image numbers all_pairs p there)

    -- lookups that pass through take the ids after, one by one
    pub passing_renamed : map (λ a. rename a.0) us ≡ map (λ a. a.0) vs
    passing_renamed =
        each us vs same (recursion_from_All (λ p. rename p.0.0 ≡ p.1.0) passing_pairs (λ k d lt.
        renamed_pair (get_or passing_pairs k d) (Contains-append_left passing_pairs bus_pairs _ (Contains-get_or passing_pairs k d lt))))
      where
        each : (as_before as_after : List (Entry F)) → map bus_of_numbered as_before ≡ map bus_of_numbered as_after → AllByRecursion (λ p. rename p.0.0 ≡ p.1.0) (zip as_before as_after) → map (λ a. rename a.0) as_before ≡ map (λ a. a.0) as_after
        each [] [] alike all = refl
        each (a ∷ rest) (b ∷ later) alike all = λ i. all.0 i ∷ each rest later (cc) all.1 i
        each rest later alike all = absurd cc

    -- the id of a bus: that of its lookups after, or else the new one of its lookups before
    abbrev pub bus_id : List ℕ → ℕ
    bus_id name = unwrap_or (id_on ys name) (rename (unwrap_or (id_on xs name) 0))

    pub before_has_id : (a : Entry F) → Contains xs a → HasBusId bus_id (rename a.0, a.1)
    before_has_id a there name on = by_after (id_on ys name) refl
      where
        by_after : (o : Option ℕ) → id_on ys name ≡ o → rename a.0 ≡ unwrap_or o (rename (unwrap_or (id_on xs name) 0))
        by_after None none = ap (λ o. rename (unwrap_or o 0)) (sym (has_id_on xs buses a there name on))
        by_after (Some id) is =
            let (b, b_there, b_on, b_id) = on_is ys name id is in
            let here : Contains {X = Entry F × Entry F} (beside a b) (a, b) = subst (λ t. Contains {X = Entry F × Entry F} (cond t ((a, b) ∷ []) []) (a, b)) (sym (share (bus_of_numbered a) (bus_of_numbered b) name on b_on)) (0, omega arith, refl) in
            renamed_pair (a, b) (Contains-append_right passing_pairs bus_pairs (a, b) (in_part (λ c. flat_map (beside c) ys) xs a (a, b) there (in_part (beside a) ys b (a, b) b_there here))) ∙ b_id

    pub after_has_id : (b : Entry F) → Contains ys b → HasBusId bus_id b
    after_has_id b there name on = ap (λ o. unwrap_or o (rename (unwrap_or (id_on xs name) 0))) (sym (has_id_on ys buses_after b there name on))
