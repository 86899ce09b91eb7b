-- Lists that are made index by index over a range, in two parts.
use Rattle.std.proofs.Common.{◌≡◌, ℕ, zero, suc, ◌+◌, List, ◌++◌, refl, sym, ap, ◌∙◌, arith, append_assoc}
use Rattle.std.specs.List.{flat_map, range_with_len}

module _ {B : Type 0} (f : ℕ → List B) where
  -- a range that begins later
  pub later_parts : (a b n : ℕ) → flat_map f (range_with_len (a + b) n) ≡ flat_map (λ k. f (a + k)) (range_with_len b n)
  later_parts a b zero = refl
  later_parts a b (suc n) =
      ap (λ t. f (a + b) ++ t) (ap (λ c. flat_map f (range_with_len c n)) (omega arith) ∙ later_parts a (b + 1) n)

  -- a range in two parts
  pub joined_parts : (a m n : ℕ) → flat_map f (range_with_len a (m + n)) ≡ flat_map f (range_with_len a m) ++ flat_map f (range_with_len (a + m) n)
  joined_parts a zero n =
      let begin : a ≡ a + 0 = omega arith in
      let none : 0 + n ≡ n = omega arith in
      λ i. flat_map f (range_with_len (begin i) (none i))
  joined_parts a (suc m) n =
      let one : suc m + n ≡ suc (m + n) = omega arith in
      let next : a + 1 + m ≡ a + suc m = omega arith in
      ap (λ k. flat_map f (range_with_len a k)) one
      ∙ ap (λ t. f a ++ t) (joined_parts (a + 1) m n ∙ ap (λ c. flat_map f (range_with_len (a + 1) m) ++ flat_map f (range_with_len c n)) next)
      ∙ sym (append_assoc (f a) (flat_map f (range_with_len (a + 1) m)) (flat_map f (range_with_len (a + suc m) n)))
