-- The ids of a batch, lookup by lookup.
use Rattle.std.proofs.Common.{◌≡◌, ◌↔◌, ℕ, ◌+◌, ◌<◌, ◌≤◌, List, [], ◌∷◌, ◌++◌, All, length, map, take, get_or, sym, ap, subst, subst₂, ◌∙◌, arith}
use Rattle.std.proofs.lemmas.List.{append_assoc, get_or-map, get_or_default, length-map, map_push}
use Rattle.std.proofs.lemmas.List.Elements.{All-map}
use Rattle.std.proofs.lemmas.Slice.Zip.{length-zip}
use Rattle.std.specs.List.{AllPairs, zip}
use Rattle.list_laws.proofs.Each.{All-of_map}
use Rattle.list_laws.proofs.Items.{item_at, take_item}
use Rattle.list_laws.proofs.Zips.{zip_at}
use Rattle.lookup_model.specs.declared.types.Lookup.{Lookup}
use Rattle.lookup_model.specs.Batches.Ids.{AreLawfulIds, HaveOneWidth, ShareBus, batch_lookups_with_ids}
use Rattle.lookup_model.specs.Batches.Instances.{Instance}
use Rattle.checker_batches.specs.declared.ids.Identified.{Identified}
use Rattle.checker_batches.specs.internal.Identified.{AreLawful, identified_of}

module _ {X Y : Type 0} (f : X → Y) (xs : List X) where
  -- what holds of the images of any two items holds of any two images, and the other way round
  pub pairs_mapped : (R : Y → Y → Type 0) → AllPairs (λ x y. R (f x) (f y)) xs → AllPairs R (map f xs)
  pairs_mapped R pairs i j e before below =
      let within : j < length xs = omega (arith, length-map xs f, below) in
      let (z, z_is) = item_at xs j within in
      subst₂ R (sym (get_or-map f xs i z e (omega (arith, before, within)))) (sym (get_or-map f xs j z e within)) (pairs i j z before within)

  pub pairs_unmapped : (R : Y → Y → Type 0) → AllPairs R (map f xs) → AllPairs (λ x y. R (f x) (f y)) xs
  pairs_unmapped R pairs i j d before below =
      subst₂ R (get_or-map f xs i d (f d) (omega (arith, before, below))) (get_or-map f xs j d (f d) below) (pairs i j (f d) before (omega (arith, length-map xs f, below)))

module _ {F : Type 0} where
  -- one more lookup of an AIR
  pub push_at : (start : List (ℕ × Lookup F)) (ids : List ℕ) (lookups : List (Lookup F)) (before : List (Identified F)) (i : ℕ) (one : Identified F) (id : ℕ) (lookup : Lookup F) → i < length ids → length ids ≡ length lookups → one.id ≡ get_or ids i id → one.lookup.now ≡ get_or lookups i lookup
      → map identified_of before ≡ start ++ take i (zip ids lookups) → map identified_of (before ++ one ∷ []) ≡ start ++ take (i + 1) (zip ids lookups)
  push_at start ids lookups before i one id lookup lt as_many id_is lookup_is so_far =
      let there : identified_of one ≡ get_or (zip ids lookups) i (identified_of one) =
      zip_at ids lookups i one.id one.lookup.now as_many lt (id_is ∙ get_or_default ids i id one.id lt) (lookup_is ∙ get_or_default lookups i lookup one.lookup.now (omega (arith, lt, as_many))) in
      map_push identified_of before one ∙ ap (λ t. t ++ identified_of one ∷ []) so_far ∙ append_assoc start (take i (zip ids lookups)) (identified_of one ∷ [])
      ∙ ap (λ t. start ++ t) (sym (take_item (zip ids lookups) i (identified_of one) (omega (arith, length-zip ids lookups, lt, as_many)) there))

  -- lawful ids of lookups that are those of a batch, and the other way round
  module _ (W m p : ℕ) (all : List (Identified F)) (instances : List (Instance F)) (are : map identified_of all ≡ batch_lookups_with_ids instances) where
    pub lawful_from : AreLawful W m p all → AreLawfulIds W m p instances
    lawful_from lawful = record {
      buses = subst (AllPairs (λ a b. (a.0 ≡ b.0) ↔ ShareBus a.1 b.1)) are (pairs_mapped identified_of all (λ a b. (a.0 ≡ b.0) ↔ ShareBus a.1 b.1) lawful.4);
      below = subst (All (λ a. a.0 < m)) are (All-map (λ a. a.0 < m) identified_of all (λ k d lt. (lawful.2 k d lt).0));
      few = lawful.1;
      widths = subst (λ (xs : List (ℕ × Lookup F)). All (λ a. All (λ b. a.0 ≡ b.0 → HaveOneWidth a.1 b.1) xs) xs) are (All-map (λ a. All (λ b. a.0 ≡ b.0 → HaveOneWidth a.1 b.1) (map identified_of all)) identified_of all (λ k d lt. All-map (λ b. (get_or all k d).id ≡ b.0 → HaveOneWidth (get_or all k d).lookup.now b.1) identified_of all (lawful.3 k d lt)));
      narrow = subst (All (λ a. All (λ tuple. length tuple.items ≤ W) a.1.elements.items)) are (All-map (λ a. All (λ tuple. length tuple.items ≤ W) a.1.elements.items) identified_of all (λ k d lt. (lawful.2 k d lt).1));
      positive = lawful.0;
    }

    pub lawful_back : AreLawfulIds W m p instances → AreLawful W m p all
    lawful_back lawful =
        let over = sym are in
        let IsBelow = λ (a : ℕ × Lookup F). a.0 < m in
        let IsNarrow = λ (a : ℕ × Lookup F). All (λ tuple. length tuple.items ≤ W) a.1.elements.items in
        let Agrees = λ (xs : List (ℕ × Lookup F)) (a : ℕ × Lookup F). All (λ b. a.0 ≡ b.0 → HaveOneWidth a.1 b.1) xs in (
          lawful.positive,
          lawful.few,
          (λ k d lt. (All-of_map IsBelow identified_of all (subst (All IsBelow) over lawful.below) k d lt, All-of_map IsNarrow identified_of all (subst (All IsNarrow) over lawful.narrow) k d lt)),
          (λ k d lt. All-of_map (λ b. (get_or all k d).id ≡ b.0 → HaveOneWidth (get_or all k d).lookup.now b.1) identified_of all
              (All-of_map (Agrees (map identified_of all)) identified_of all (subst (λ (xs : List (ℕ × Lookup F)). All (Agrees xs) xs) over lawful.widths) k d lt)),
          pairs_unmapped identified_of all (λ a b. (a.0 ≡ b.0) ↔ ShareBus a.1 b.1) (subst (AllPairs (λ a b. (a.0 ≡ b.0) ↔ ShareBus a.1 b.1)) over lawful.buses),
        )
