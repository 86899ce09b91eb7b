-- Messages in another order have the same keys, and the same of them are unbalanced.
use Rattle.std.proofs.Common.{◌≡◌, Bool, true, false, cond, not, ◌||◌, ◌&&◌, List, [], ◌∷◌, map, refl, sym, ap, ◌∙◌, Decides, arith}
use Rattle.std.proofs.lemmas.Bool.{false≢true}
use Rattle.std.proofs.lemmas.List.Sorted.{IsPermutation-cons, IsPermutation-map, IsPermutation-middle, IsPermutation-refl, IsPermutation-sym, IsPermutation-trans, list_any-IsPermutation}
use Rattle.std.specs.List.{AllByRecursion, filter, list_any}
use Rattle.std.specs.List.Sorted.{IsPermutation}
use Rattle.field.specs.Ring.{IsCommutativeRing, Ring}
use Rattle.lookup_model.proofs.Lookups.KeyLaws.{same_key-Decides}
use Rattle.lookup_model.proofs.Lookups.Regrouping.{IsSeparate, IsSeparate-filter, first_seen_separate, same_self}
use Rattle.lookup_model.specs.Message.{Key, Message, same_key}
use Rattle.lookup_model.specs.Net.{keys, net, unbalanced_keys}
use Rattle.lookup_messages.proofs.NetEntries.{any-first_seen, turned}
use Rattle.lookup_model.specs.declared.types.Lookup.{Lookup}
use Rattle.lookup.specs.KeptByPacking.{HaveSameKeys, KeepsKeys, KeepsMessages}
use Rattle.lookup.proofs.KeptLaws.{net-permutation, trace_kept}

module _ {A : Type 0} (same : A → A → Bool) (decides : (a b : A) → Decides (same a b) (a ≡ b)) where
  -- the items apart from one
  abbrev apart_from : A → List A → List A
  apart_from x ys = filter (λ y. not (same x y)) ys

  all_apart : (x : A) (ys : List A) → AllByRecursion (λ y. same x y ≡ false) ys → apart_from x ys ≡ ys
  all_apart x [] all = refl
  all_apart x (y ∷ ys) all = ap (λ b. cond (not b) (y ∷ apart_from x ys) (apart_from x ys)) all.0 ∙ ap (λ t. y ∷ t) (all_apart x ys all.1)

  -- an item of separate ones comes first, and the others follow
  taken : (x : A) (ys : List A) → IsSeparate same ys → list_any (λ y. same y x) ys ≡ true → IsPermutation ys (x ∷ apart_from x ys)
  taken x [] separate has = absurd (false≢true has)
  taken x (y ∷ ys) separate has =
      let later = λ (there : list_any (λ z. same z x) ys ≡ true). IsPermutation-trans _ _ _ (IsPermutation-cons y ys (x ∷ apart_from x ys) (taken x ys separate.1 there)) (IsPermutation-middle (y ∷ []) x (apart_from x ys)) in
      grind (arith, has, later, decides y x, turned same decides x y, all_apart y ys separate.0, IsPermutation-refl (y ∷ ys))

  -- whether an item is among those that pass a test
  any-filter : (p : A → Bool) (z : A) (ks : List A) → list_any (λ k. same k z) (filter p ks) ≡ (p z && list_any (λ k. same k z) ks)
  any-filter p z [] = grind arith
  any-filter p z (k ∷ ks) = grind (arith, any-filter p z ks, decides k z)

  -- an item that all are apart from is not among them
  none_same : (x z : A) → same x z ≡ true → (ys : List A) → AllByRecursion (λ y. same x y ≡ false) ys → list_any (λ y. same y z) ys ≡ false
  none_same x z e [] all = refl
  none_same x z e (y ∷ ys) all = grind (arith, none_same x z e ys all.1, decides x z, turned same decides y x, all.0)

  -- separate lists with the same items differ in the order alone
  same_items : (xs ys : List A) → IsSeparate same xs → IsSeparate same ys → ((z : A) → list_any (λ x. same x z) xs ≡ list_any (λ y. same y z) ys) → IsPermutation xs ys
  same_items [] [] first second agree = IsPermutation-refl []
  same_items [] (y ∷ ys) first second agree = absurd (false≢true (agree y ∙ ap (λ b. b || list_any (λ z. same z y) ys) (same_self same decides y)))
  same_items (x ∷ xs) ys first second agree =
      let has : list_any (λ y. same y x) ys ≡ true = sym (agree x) ∙ ap (λ b. b || list_any (λ y. same y x) xs) (same_self same decides x) in
      IsPermutation-trans _ _ _ (IsPermutation-cons x xs (apart_from x ys) (same_items xs (apart_from x ys) first.1 (IsSeparate-filter same (λ y. not (same x y)) ys second) others))
      (IsPermutation-sym _ _ (taken x ys second has))
    where
      others : (z : A) → list_any (λ y. same y z) xs ≡ list_any (λ y. same y z) (apart_from x ys)
      others z = grind (arith, agree z, any-filter (λ y. not (same x y)) z ys, λ (e : same x z ≡ true). none_same x z e xs first.0)

-- messages in another order have the same keys
module _ {F : Type 0} {R : Ring F} (laws : IsCommutativeRing R) (eq : F → F → Bool) (decides : (a b : F) → Decides (eq a b) (a ≡ b)) (xs ys : List (Message F)) (same : IsPermutation xs ys) where
  same_keys : (z : Key F) → list_any (λ k. same_key eq k z) (keys eq xs) ≡ list_any (λ k. same_key eq k z) (keys eq ys)
  same_keys z =
      any-first_seen (same_key eq) (same_key-Decides eq decides) (map (λ m. m.key) xs) z
      ∙ list_any-IsPermutation (λ k. same_key eq k z) (map (λ m. m.key) xs) (map (λ m. m.key) ys) (IsPermutation-map (λ m. m.key) xs ys same)
      ∙ sym (any-first_seen (same_key eq) (same_key-Decides eq decides) (map (λ m. m.key) ys) z)

  abbrev unbalanced_at : List (Message F) → Key F → Bool
  unbalanced_at ms key = not (eq (net R eq ms key) R.zero)

  pub keys-permutation : HaveSameKeys R eq xs ys
  keys-permutation =
      let test = same_key eq in
      let tests = same_key-Decides eq decides in
      let first = first_seen_separate test (map (λ m. m.key) xs) in
      let second = first_seen_separate test (map (λ m. m.key) ys) in record {
        all = same_items test tests (keys eq xs) (keys eq ys) first second same_keys;
        unbalanced = same_items test tests (unbalanced_keys R eq xs) (unbalanced_keys R eq ys) (IsSeparate-filter test (unbalanced_at xs) (keys eq xs) first) (IsSeparate-filter test (unbalanced_at ys) (keys eq ys) second)
            (λ z. any-filter test tests (unbalanced_at xs) z (keys eq xs)
            ∙ (λ i. not (eq (sym (net-permutation laws eq xs ys same z) i) R.zero) && same_keys z i)
            ∙ sym (any-filter test tests (unbalanced_at ys) z (keys eq ys)));
      }

-- what keeps the messages of every row keeps the keys of a trace
pub kept_keys : {F : Type 0} {R : Ring F} (laws : IsCommutativeRing R) (eq : F → F → Bool) (decides : (a b : F) → Decides (eq a b) (a ≡ b)) (before after : List (Lookup F)) → KeepsMessages R eq before after → KeepsKeys R eq before after
kept_keys {F} {R} laws eq decides before after kept id_before id_after same traces =
    keys-permutation laws eq decides _ _ (trace_kept R eq before after kept id_before id_after same traces)
