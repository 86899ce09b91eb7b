-- Sums of ring elements over lists in another order.
use Rattle.std.proofs.Common.{◌≡◌, ◌<◌, inl, inr, ℕ, zero, suc, Bool, cond, List, [], ◌∷◌, map, length, get_or, set, refl, sym, ap, ◌∙◌, arith}
use Rattle.std.proofs.lemmas.Bool.{cases_eq}
use Rattle.std.proofs.lemmas.List.{get_or-set_other, get_or-set_same, length-set}
use Rattle.std.proofs.lemmas.List.Sorted.{IsPermutation-keeps}
use Rattle.std.proofs.lemmas.List.Edits.{swap_is}
use Rattle.std.specs.List.{filter, swap}
use Rattle.std.specs.List.Sorted.{IsPermutation}
use Rattle.field.specs.Ring.{IsCommutativeRing, Ring}
use Rattle.field.specs.laws.RingFacts.{add_cancel_right, zero_add}
use Rattle.field.specs.Sums.{sum_in}

module _ {K X : Type 0} {S : Ring K} (laws : IsCommutativeRing S) where
  -- a sum over the items that pass a test
  pub sum_in-passing : (f : X → K) (p : X → Bool) (xs : List X) → sum_in S (map f (filter p xs)) ≡ sum_in S (map (λ x. cond (p x) (f x) S.zero) xs)
  sum_in-passing f p [] = refl
  sum_in-passing f p (x ∷ xs) = grind (arith, sum_in-passing f p xs, zero_add laws (sum_in S (map (λ y. cond (p y) (f y) S.zero) xs)))

  module _ (f : X → K) where
    abbrev total : List X → K
    total xs = sum_in S (map f xs)

    -- the first of three summands and the last change places
    ends : (a b c : K) → S.add (S.add a b) c ≡ S.add (S.add c b) a
    ends a b c = laws.add_comm (S.add a b) c ∙ ap (S.add c) (laws.add_comm a b) ∙ sym (laws.add_assoc c b a)

    -- an item in the place of another
    sum_in-set : (xs : List X) (i : ℕ) (y d : X) → i < length xs → S.add (total (set xs i y)) (f (get_or xs i d)) ≡ S.add (total xs) (f y)
    sum_in-set [] i y d lt = absurd (omega (arith, lt))
    sum_in-set (x ∷ xs) zero y d lt = ends (f y) (total xs) (f x)
    sum_in-set (x ∷ xs) (suc i) y d lt =
        laws.add_assoc (f x) (total (set xs i y)) (f (get_or xs i d))
        ∙ ap (S.add (f x)) (sum_in-set xs i y d (omega (arith, lt)))
        ∙ sym (laws.add_assoc (f x) (total xs) (f y))

    -- two items that change places
    sum_in-swap : (xs : List X) (i j : ℕ) → i < length xs → j < length xs → total (swap xs i j) ≡ total xs
    sum_in-swap [] i j low high = absurd (omega (arith, low))
    sum_in-swap (x ∷ xs) i j low high =
        let all : List X = x ∷ xs in
        let first : X = get_or all i x in
        let second : X = get_or all j x in
        let one : List X = set all i second in
        let long : length one ≡ length all = length-set all i second in
        let there : get_or one j x ≡ second = elim (cases_eq j i) [ inl same ↦ ap (λ n. get_or one n x) same ∙ get_or-set_same all i second x low | inr apart ↦ get_or-set_other all i j second x apart ] in
        let once : S.add (total one) (f first) ≡ S.add (total all) (f second) = sum_in-set all i second x low in
        let twice : S.add (total (set one j first)) (f second) ≡ S.add (total one) (f first) = ap (λ t. S.add (total (set one j first)) (f t)) (sym there) ∙ sum_in-set one j first x (omega (arith, long, high)) in
        ap total (sym (swap_is all i j x low high)) ∙ add_cancel_right laws (f second) (total (set one j first)) (total all) (twice ∙ once)

    -- a list in another order has the same sum
    pub sum_in-permutation : (xs ys : List X) → IsPermutation xs ys → total ys ≡ total xs
    sum_in-permutation xs ys = IsPermutation-keeps xs (λ l. total l ≡ total xs) refl (λ l i j low high same. sum_in-swap l i j low high ∙ same) ys
