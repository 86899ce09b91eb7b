-- Flags that are bits, and have a bit as their sum.
use Rattle.std.proofs.Common.{◌≡◌, ◌↔◌, inl, inr, ℕ, suc, ◌+◌, ◌<◌, ◌≤◌, Bool, true, false, IsTrue, cond, ◌||◌, ◌&&◌, List, [], ◌∷◌, ◌++◌, length, map, take, get_or, refl, sym, ap, ap₂, subst, ◌∙◌, arith}
use Rattle.std.proofs.lemmas.Bool.{false_from_ne_true}
use Rattle.std.proofs.lemmas.List.{map_push}
use Rattle.std.specs.List.{AllByRecursion, enumerate_from, filter}
use Rattle.list_laws.proofs.Each.{all_both}
use Rattle.list_laws.proofs.Items.{take_item}
use Rattle.air_constraints.proofs.BitLaws.{small_bit}
use Rattle.air_constraints.specs.internal.Bits.{sum_of}
use Rattle.air_constraints.specs.Facts.{IsBit}
use Rattle.field.specs.Characteristic.{HasCharacteristic}
use Rattle.field.specs.Ring.{Ring, IsCommutativeRing, IsDomain, of_nat}
use Rattle.field.specs.laws.RingFacts.{add_left_comm, zero_add}
use Rattle.lookup_model.specs.Fault.{IsLawfulSelection, are_boolean, set_indices}

module _ {F : Type 0} {R : Ring F} (laws : IsCommutativeRing R) (domain : IsDomain R) where
  module _ (eq : F → F → Bool) (decides : (a b : F) → IsTrue (eq a b) ↔ (a ≡ b)) where
    -- bits are boolean
    bits_are_boolean : (fs : List F) → AllByRecursion (IsBit R) fs → are_boolean R eq fs ≡ true
    bits_are_boolean [] all = refl
    bits_are_boolean (f ∷ fs) all = λ i. one_is all.0 i && bits_are_boolean fs all.1 i
      where
        one_is : IsBit R f → (eq f R.zero || eq f R.one) ≡ true
        one_is (inl z) = ap (λ b. b || eq f R.one) ((decides f R.zero).1 z)
        one_is (inr o) = ap (λ b. eq f R.zero || b) ((decides f R.one).1 o) ∙ or_true (eq f R.zero)
          where
            or_true : (b : Bool) → (b || true) ≡ true
            or_true true = refl
            or_true false = refl

    -- their sum is as many ones as there are set ones
    sum_is_count : (n : ℕ) (fs : List F) → AllByRecursion (IsBit R) fs → sum_of R fs ≡ of_nat R (length (set_indices R eq n fs))
    unfolding of_nat
    sum_is_count n [] all = refl
    sum_is_count n (f ∷ fs) all = by_bit all.0 (sum_is_count (n + 1) fs all.1)
      where
        by_bit : IsBit R f → sum_of R fs ≡ of_nat R (length (set_indices R eq (n + 1) fs))
            → R.add f (sum_of R fs) ≡ of_nat R (length (set_indices R eq n (f ∷ fs)))
        by_bit (inl z) later =
            let unset : eq f R.one ≡ false = false_from_ne_true (eq f R.one) (λ set. domain.zero_is_not_one (sym z ∙ (decides f R.one).0 set)) in
            ap₂ R.add z later ∙ zero_add laws (of_nat R (length (set_indices R eq (n + 1) fs)))
            ∙ (λ i. of_nat R (length (map (λ (p : ℕ × F). p.0) (cond (sym unset i) ((n, f) ∷ filter (λ (p : ℕ × F). eq p.1 R.one) (enumerate_from (n + 1) fs)) (filter (λ (p : ℕ × F). eq p.1 R.one) (enumerate_from (n + 1) fs))))))
        by_bit (inr o) later =
            let set : eq f R.one ≡ true = (decides f R.one).1 o in
            ap₂ R.add o later
            ∙ (λ i. of_nat R (length (map (λ (p : ℕ × F). p.0) (cond (sym set i) ((n, f) ∷ filter (λ (p : ℕ × F). eq p.1 R.one) (enumerate_from (n + 1) fs)) (filter (λ (p : ℕ × F). eq p.1 R.one) (enumerate_from (n + 1) fs))))))

    -- at most as many are set as there are
    set_few : (n : ℕ) (fs : List F) → length (set_indices R eq n fs) ≤ length fs
    set_few n [] = omega arith
    set_few n (f ∷ fs) = by_test (eq f R.one) (set_few (n + 1) fs)
      where
        by_test : (t : Bool) → length (set_indices R eq (n + 1) fs) ≤ length fs
            → length (map (λ (p : ℕ × F). p.0) (cond t ((n, f) ∷ filter (λ (p : ℕ × F). eq p.1 R.one) (enumerate_from (n + 1) fs)) (filter (λ (p : ℕ × F). eq p.1 R.one) (enumerate_from (n + 1) fs)))) ≤ suc (length fs)
        by_test true few = omega (arith, few)
        by_test false few = omega (arith, few)

    -- fewer flags than the characteristic, each a bit and with a bit as their sum, are lawful
    pub lawful_from_sum : (p : ℕ) (fs : List F) → HasCharacteristic R p → length fs < p → AllByRecursion (IsBit R) fs → IsBit R (sum_of R fs) → IsLawfulSelection R eq fs
    lawful_from_sum p fs char lt all bit =
        let few = set_few 0 fs in
        let P : F → Type 0 = IsBit R in
        (bits_are_boolean fs all, small_bit laws domain p (length (set_indices R eq 0 fs)) char (omega (arith, few, lt)) (subst P (sum_is_count 0 fs all) bit))

  -- the sum with one more at the end
  sum_push : (xs : List F) (x : F) → sum_of R (xs ++ x ∷ []) ≡ R.add x (sum_of R xs)
  sum_push [] x = refl
  sum_push (y ∷ xs) x = ap (R.add y) (sum_push xs x) ∙ add_left_comm laws y x (sum_of R xs)

  -- one flag more
  pub flags_more : {A : Type 0} (f : A → F) (xs : List A) (i : ℕ) (x : A) (before after p : F) → i < length xs → x ≡ get_or xs i x
      → AllByRecursion (IsBit R) (map f (take i xs)) × (before ≡ sum_of R (map f (take i xs)))
      → (p ≡ f x) × IsBit R p → after ≡ R.add p before
      → AllByRecursion (IsBit R) (map f (take (i + 1) xs)) × (after ≡ sum_of R (map f (take (i + 1) xs)))
  flags_more f xs i x before after p lt is so_far bit step =
      let more : map f (take i xs) ++ f x ∷ [] ≡ map f (take (i + 1) xs) = sym (ap (map f) (take_item xs i x lt is) ∙ map_push f (take i xs) x) in
      let P : List F → Type 0 = AllByRecursion (IsBit R) in
      let Q : F → Type 0 = IsBit R in (
        subst P more (all_both (IsBit R) (map f (take i xs)) (f x ∷ []) so_far.0 (subst Q bit.0 bit.1, tt)),
        step ∙ ap₂ R.add bit.0 so_far.1 ∙ sym (sum_push (map f (take i xs)) (f x)) ∙ ap (sum_of R) more,
      )
