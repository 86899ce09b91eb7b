-- Montgomery's products in four lanes.
use Rattle.std.proofs.Common.{◌≡◌, ℕ, ◌<◌, ◌≤◌, ◌+◌, ◌*◌, ◌/◌, ◌%◌, ◌^◌, List, [], ◌∷◌, slice_index, refl, sym, ap, ap₂, subst, ◌∙◌, arith}
use Rattle.std.proofs.lemmas.Nat.{mul-le, mul-lt}
use Rattle.std.proofs.lemmas.Simd.{Each1-get_or}
use native.Mathlib.Nat.{mod-eq_of_lt}
use Rattle.std.specs.Simd.Lanes.{Each1}
use Rattle.field_monty.specs.Montgomery.{IsMontgomery, from_stored as element_stored}
use Rattle.field.specs.Residue.{Residue, residue_of}
use Rattle.field.specs.ResidueRing.{residue_ring}
use Rattle.field.specs.Ring.{Ring}
use Rattle.field_monty.specs.internal.Four.{AllFour, Four, map_four, same_four, zip_four}
use Rattle.field_monty.specs.internal.Lanes.{AreDifferences, AreReduced, AreStored, IsDifference, IsReduced, from_lanes, lanes_in_turn, lanes_ring}
use Rattle.field_monty.specs.laws.Four.{four_same}
use Rattle.field.specs.laws.ResidueRing.{residue_ring_lawful}
use Rattle.field_monty.proofs.Montgomery.{from_stored_is, high_reduced, product_stored, reduced_halves}

-- A lane of a vector of four whose lanes are all below the modulus.
pub lane_below : (p : ℕ) (a : List ℕ) (j : ℕ) → j < 4 → AreStored p a → slice_index a j < p
lane_below p a j h stored = Each1-get_or (λ x. x < p) a j 0 (omega (arith, stored.long)) stored.below

-- Numbers below a number are below a greater one.
pub each_below : (m n : ℕ) → m ≤ n → (xs : List ℕ) → Each1 (λ x. x < m) xs → Each1 (λ x. x < n) xs
each_below m n h [] all = tt
each_below m n h (x ∷ xs) all = (let first = all.0 in omega (arith, h), each_below m n h xs all.1)

pub all_below : (m n : ℕ) → m ≤ n → (a : Four ℕ) → AllFour (λ x. x < m) a → AllFour (λ x. x < n) a
all_below m n h a all = record {
  first = omega (arith, h, all.first);
  second = omega (arith, h, all.second);
  third = omega (arith, h, all.third);
  fourth = omega (arith, h, all.fourth);
}

-- The sums of numbers below m and of numbers below n.
pub sums_bounded : (m n : ℕ) (x y s : Four ℕ) → s ≡ zip_four (λ (j k : ℕ). j + k) x y → AllFour (λ k. k < m) x → AllFour (λ k. k < n) y → AllFour (λ k. k < m + n) s
sums_bounded m n x y s e p q = record {
  first = omega (arith, ap (λ (u : Four ℕ). u.first) e, p.first, q.first);
  second = omega (arith, ap (λ (u : Four ℕ). u.second) e, p.second, q.second);
  third = omega (arith, ap (λ (u : Four ℕ). u.third) e, p.third, q.third);
  fourth = omega (arith, ap (λ (u : Four ℕ). u.fourth) e, p.fourth, q.fourth);
}

-- the products of the lanes 0 and 2, and those of the lanes 1 and 3
abbrev pub even_products : List ℕ → List ℕ → List ℕ
even_products a b = slice_index a 0 * slice_index b 0 ∷ slice_index a 2 * slice_index b 2 ∷ []

abbrev pub odd_products : List ℕ → List ℕ → List ℕ
odd_products a b = slice_index a 1 * slice_index b 1 ∷ slice_index a 3 * slice_index b 3 ∷ []

-- the high halves of the lanes in turn
abbrev pub high_halves : List ℕ → List ℕ → List ℕ
high_halves even odd = slice_index even 0 / 4294967296 ∷ slice_index odd 0 / 4294967296 ∷ slice_index even 1 / 4294967296 ∷ slice_index odd 1 / 4294967296 ∷ []

-- the multiple of the modulus that is taken from a number
abbrev pub multiple_of : ℕ → ℕ → ℕ → ℕ
multiple_of inverse p x = x % 4294967296 * inverse % 4294967296 * p

abbrev pub multiples : ℕ → ℕ → List ℕ → List ℕ
multiples inverse p xs = multiple_of inverse p (slice_index xs 0) ∷ multiple_of inverse p (slice_index xs 1) ∷ []

-- What is taken from a number is below the modulus.
multiple_below : {p : ℕ} → 0 < p → (inverse x : ℕ) → multiple_of inverse p x / 4294967296 < p
multiple_below {p} positive inverse x =
    let y = x % 4294967296 * inverse % 4294967296 in
    let low : y ≤ 4294967295 = omega arith in
    let most = mul-le y p 4294967295 p low (omega arith) in
    omega (arith, positive, most)

pub taken_below : {p : ℕ} → 0 < p → (even odd : List ℕ) (m n : ℕ) (me mo t : List ℕ) → me ≡ multiples m p even → mo ≡ multiples n p odd → t ≡ high_halves me mo → Each1 (λ x. x < p) t
taken_below {p} positive even odd m n me mo t ee eo et =
    let at = multiple_below positive in
    subst (Each1 (λ x. x < p)) (sym (et ∙ ap₂ high_halves ee eo))
    (at m (slice_index even 0), (at n (slice_index odd 0), (at m (slice_index even 1), (at n (slice_index odd 1), tt))))

-- Products of numbers below 2^32 need no more than 64 bits.
plain_product : (x y : ℕ) → x < 4294967296 → y < 4294967296 → x * y % 2 ^ 64 ≡ x * y
plain_product x y p q =
    let below : x * y < 4294967296 * 4294967296 = mul-lt x y 4294967296 4294967296 p q in
    mod-eq_of_lt (omega (arith, below))

-- As vectors make it.
plain_multiple : (inverse p x : ℕ) → inverse < 4294967296 → p < 4294967296 → x % 4294967296 * inverse % 2 ^ 64 % 4294967296 * p % 2 ^ 64 ≡ multiple_of inverse p x
plain_multiple inverse p x low small =
    let first : x % 4294967296 * inverse % 2 ^ 64 ≡ x % 4294967296 * inverse = plain_product (x % 4294967296) inverse (omega arith) low in
    ap (λ y. y % 4294967296 * p % 2 ^ 64) first
    ∙ plain_product (x % 4294967296 * inverse % 4294967296) p (omega arith) small

module _ {p modulus_inverse radix_squared one i : ℕ} (positive : 0 < p) (facts : IsMontgomery p modulus_inverse radix_squared one i) where
  abbrev R : Ring (Residue p)
  R = residue_ring p positive

  abbrev L : Ring (Four (Residue p))
  L = lanes_ring p positive

  abbrev residue : ℕ → Residue p
  residue = residue_of p positive

  abbrev from_stored : ℕ → Residue p
  from_stored = element_stored p i positive

  pub products_below : (a b even odd : List ℕ) → AreStored p a → AreStored p b → even ≡ even_products a b → odd ≡ odd_products a b → AllFour (λ n. n < p * 2147483648) (lanes_in_turn even odd)
  products_below a b even odd s t e o =
      let bound = λ (j : ℕ) (h : j < 4). mul-lt (slice_index a j) (slice_index b j) p 2147483648 (lane_below p a j h s) (omega (arith, facts.small, lane_below p b j h t)) in
      record {
        first = omega (arith, ap (λ l. slice_index l 0) e, bound 0 (omega arith));
        second = omega (arith, ap (λ l. slice_index l 0) o, bound 1 (omega arith));
        third = omega (arith, ap (λ l. slice_index l 1) e, bound 2 (omega arith));
        fourth = omega (arith, ap (λ l. slice_index l 1) o, bound 3 (omega arith));
      }

  pub products_value : (a b even odd : List ℕ) → even ≡ even_products a b → odd ≡ odd_products a b
      → map_four from_stored (lanes_in_turn even odd) ≡ L.mul (same_four (residue 4294967296)) (L.mul (from_lanes p i positive a) (from_lanes p i positive b))
  products_value a b even odd e o =
      four_same _ _
      (ap (λ l. from_stored (slice_index l 0)) e ∙ product_stored positive facts (slice_index a 0) (slice_index b 0))
      (ap (λ l. from_stored (slice_index l 0)) o ∙ product_stored positive facts (slice_index a 1) (slice_index b 1))
      (ap (λ l. from_stored (slice_index l 1)) e ∙ product_stored positive facts (slice_index a 2) (slice_index b 2))
      (ap (λ l. from_stored (slice_index l 1)) o ∙ product_stored positive facts (slice_index a 3) (slice_index b 3))

  -- The difference of the high halves of a number, reduced once, and of that multiple is the number divided by 2^32.
  lane_reduced : (x g h m t r : ℕ) → g ≡ x / 4294967296 → IsReduced p g h → m ≡ multiple_of modulus_inverse p x → t ≡ m / 4294967296 → IsDifference p h t r
      → from_stored r ≡ R.mul (residue i) (from_stored x)
  lane_reduced x g h m t r eg once em et is =
      let low : x % 4294967296 < 4294967296 = omega arith in
      let below = once.below in
      let small = facts.small in
      let known : residue r ≡ from_stored x =
      reduced_halves positive facts h (x % 4294967296) (x % 4294967296 * modulus_inverse % 4294967296) r low refl
      (λ less. is.borrowing (omega (arith, em, et, less)) ∙ omega (arith, em, et)) (λ most. is.plain (omega (arith, em, et, most)) ∙ omega (arith, em, et))
      ∙ high_reduced positive facts x h (λ less. once.kept (omega (arith, eg, less)) ∙ eg) (λ most. once.lowered (omega (arith, eg, most)) ∙ omega (arith, eg)) in
      from_stored_is positive facts r ∙ ap (λ y. R.mul y (residue i)) known
      ∙ (residue_ring_lawful p positive).mul_comm (from_stored x) (residue i)

  pub lanes_reduced : (even odd g h me mo t r : List ℕ) → g ≡ high_halves even odd → AreReduced p g h → me ≡ multiples modulus_inverse p even → mo ≡ multiples modulus_inverse p odd → t ≡ high_halves me mo → AreDifferences p h t r
      → from_lanes p i positive r ≡ L.mul (same_four (residue i)) (map_four from_stored (lanes_in_turn even odd))
  lanes_reduced even odd g h me mo t r eg once ee eo et is =
      four_same _ _
      (lane_reduced (slice_index even 0) (slice_index g 0) (slice_index h 0) (slice_index me 0) (slice_index t 0) (slice_index r 0)
      (ap (λ l. slice_index l 0) eg) (once.each 0 (omega arith)) (ap (λ l. slice_index l 0) ee) (ap (λ l. slice_index l 0) et) (is.each 0 (omega arith)))
      (lane_reduced (slice_index odd 0) (slice_index g 1) (slice_index h 1) (slice_index mo 0) (slice_index t 1) (slice_index r 1)
      (ap (λ l. slice_index l 1) eg) (once.each 1 (omega arith)) (ap (λ l. slice_index l 0) eo) (ap (λ l. slice_index l 1) et) (is.each 1 (omega arith)))
      (lane_reduced (slice_index even 1) (slice_index g 2) (slice_index h 2) (slice_index me 1) (slice_index t 2) (slice_index r 2)
      (ap (λ l. slice_index l 2) eg) (once.each 2 (omega arith)) (ap (λ l. slice_index l 1) ee) (ap (λ l. slice_index l 2) et) (is.each 2 (omega arith)))
      (lane_reduced (slice_index odd 1) (slice_index g 3) (slice_index h 3) (slice_index mo 1) (slice_index t 3) (slice_index r 3)
      (ap (λ l. slice_index l 3) eg) (once.each 3 (omega arith)) (ap (λ l. slice_index l 1) eo) (ap (λ l. slice_index l 3) et) (is.each 3 (omega arith)))

  -- Two products added leave room for as much again.
  pub front_below : (x y s : Four ℕ) → s ≡ zip_four (λ (j k : ℕ). j + k) x y → AllFour (λ n. n < p * 2147483648) x → AllFour (λ n. n < p * 2147483648) y
      → AllFour (λ n. n < 9223372036854775808) s
  front_below x y s e all_x all_y =
      all_below (p * 2147483648 + p * 2147483648) 9223372036854775808 (let small = facts.small in omega arith) s
      (sums_bounded (p * 2147483648) (p * 2147483648) x y s e all_x all_y)
