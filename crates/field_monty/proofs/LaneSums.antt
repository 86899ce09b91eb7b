-- Sums and differences of four elements, and sums of their products.
use Rattle.std.proofs.Common.{◌≡◌, ℕ, zero, suc, ◌<◌, ◌≤◌, ◌+◌, ◌*◌, ◌%◌, ◌^◌, List, [], ◌∷◌, length, slice_index, refl, sym, ap, ap₂, ◌∙◌, arith}
use Rattle.std.specs.Simd.Lanes.{Each1, zip2}
use Rattle.field_monty.specs.Montgomery.{IsMontgomery, from_stored as element_stored}
use Rattle.field.specs.Residue.{Residue, residue_of, residue_same}
use Rattle.field.specs.ResidueRing.{residue_ring}
use Rattle.field.specs.Ring.{Ring, IsCommutativeRing, of_nat, sub_in}
use Rattle.field_monty.specs.internal.Four.{Four, map_four, same_four, zip_four}
use Rattle.field_monty.specs.internal.Lanes.{AreDifferences, AreReduced, AreStored, IsDifference, IsReduced, from_lanes, lane_sums, lanes_ring, lanes_w}
use Rattle.field_monty.specs.laws.Four.{four_same}
use Rattle.field_monty.specs.laws.Lanes.{lanes_lawful}
use Rattle.field.specs.laws.ResidueRing.{of_nat_is, residue_of_mul}
use Rattle.field.specs.laws.RingFacts.{zero_add}
use Rattle.field.specs.laws.RingSolver.{var, con, :neg, ◌:+◌, ◌:*◌, ring_given}
use Rattle.field_monty.proofs.LaneCases.{four_lanes}
use Rattle.field_monty.proofs.LaneProducts.{lane_below}
use Rattle.field_monty.proofs.Montgomery.{add_stored, difference_residue, once_reduced, sub_stored}

-- The wrapped sum of numbers that are far below 2^32.
plain_sum : (x y : ℕ) → x < 2147483648 → y < 2147483648 → (x + y) % 2 ^ 32 ≡ x + y
plain_sum x y p q = omega arith

pub sums_are : (a : List ℕ) → length a ≡ 4 → (b : List ℕ) → length b ≡ 4 → Each1 (λ x. x < 2147483648) a → Each1 (λ x. x < 2147483648) b → zip2 (λ x y. (x + y) % 2 ^ 32) a b ≡ lane_sums a b
sums_are =
    four_lanes (λ a. (b : List ℕ) → length b ≡ 4 → Each1 (λ x. x < 2147483648) a → Each1 (λ x. x < 2147483648) b → zip2 (λ x y. (x + y) % 2 ^ 32) a b ≡ lane_sums a b) (λ a0 a1 a2 a3.
    four_lanes (λ b. Each1 (λ x. x < 2147483648) (a0 ∷ a1 ∷ a2 ∷ a3 ∷ []) → Each1 (λ x. x < 2147483648) b → zip2 (λ x y. (x + y) % 2 ^ 32) (a0 ∷ a1 ∷ a2 ∷ a3 ∷ []) b ≡ lane_sums (a0 ∷ a1 ∷ a2 ∷ a3 ∷ []) b) (λ b0 b1 b2 b3 p q.
    λ i. plain_sum a0 b0 p.0 q.0 i ∷ plain_sum a1 b1 p.1.0 q.1.0 i ∷ plain_sum a2 b2 p.1.1.0 q.1.1.0 i ∷ plain_sum a3 b3 p.1.1.1.0 q.1.1.1.0 i ∷ []))

module _ {p modulus_inverse radix_squared one i : ℕ} (positive : 0 < p) (facts : IsMontgomery p modulus_inverse radix_squared one i) where
  abbrev R : Ring (Residue p)
  R = residue_ring p positive

  abbrev L : Ring (Four (Residue p))
  L = lanes_ring p positive

  abbrev residue : ℕ → Residue p
  residue = residue_of p positive

  abbrev from_stored : ℕ → Residue p
  from_stored = element_stored p i positive

  laws : IsCommutativeRing L
  laws = lanes_lawful p positive

  -- Sums of stored numbers are small enough to be reduced once.
  pub sums_below : (a b : List ℕ) → AreStored p a → AreStored p b → Each1 (λ n. n < 2 * p) (lane_sums a b)
  sums_below a b s t =
      let bound = λ (j : ℕ) (h : j < 4).
      (let x = lane_below p a j h s in
      let y = lane_below p b j h t in
      let sum : slice_index a j + slice_index b j < 2 * p = omega arith in
      sum) in
      (bound 0 (omega arith), (bound 1 (omega arith), (bound 2 (omega arith), (bound 3 (omega arith), tt))))

  lane_added : (m n s r : ℕ) → s ≡ m + n → IsReduced p s r → from_stored r ≡ R.add (from_stored m) (from_stored n)
  lane_added m n s r e is =
      add_stored positive facts m n r (once_reduced positive facts s r is.kept is.lowered ∙ ap residue e)

  pub lanes_added : (a b s r : List ℕ) → s ≡ lane_sums a b → AreReduced p s r → from_lanes p i positive r ≡ L.add (from_lanes p i positive a) (from_lanes p i positive b)
  lanes_added a b s r e is =
      four_same _ _
      (lane_added (slice_index a 0) (slice_index b 0) (slice_index s 0) (slice_index r 0) (ap (λ l. slice_index l 0) e) (is.each 0 (omega arith)))
      (lane_added (slice_index a 1) (slice_index b 1) (slice_index s 1) (slice_index r 1) (ap (λ l. slice_index l 1) e) (is.each 1 (omega arith)))
      (lane_added (slice_index a 2) (slice_index b 2) (slice_index s 2) (slice_index r 2) (ap (λ l. slice_index l 2) e) (is.each 2 (omega arith)))
      (lane_added (slice_index a 3) (slice_index b 3) (slice_index s 3) (slice_index r 3) (ap (λ l. slice_index l 3) e) (is.each 3 (omega arith)))

  lane_subtracted : (m n r : ℕ) → n < p → IsDifference p m n r → from_stored r ≡ sub_in R (from_stored m) (from_stored n)
  lane_subtracted m n r low is =
      let fits : n ≤ p = omega arith in
      sub_stored positive facts m n r fits (difference_residue positive facts m n r fits is.borrowing is.plain)

  pub lanes_subtracted : (a b r : List ℕ) → AreStored p b → AreDifferences p a b r → from_lanes p i positive r ≡ sub_in L (from_lanes p i positive a) (from_lanes p i positive b)
  lanes_subtracted a b r stored is =
      let each = λ (j : ℕ) (h : j < 4). lane_subtracted (slice_index a j) (slice_index b j) (slice_index r j) (lane_below p b j h stored) (is.each j h) in
      four_same _ _ (each 0 (omega arith)) (each 1 (omega arith)) (each 2 (omega arith)) (each 3 (omega arith))

  -- Zero less an element is its negative.
  pub lanes_negated : (z a r : Four (Residue p)) → z ≡ L.zero → r ≡ sub_in L z a → r ≡ L.neg a
  lanes_negated z a r e f = f ∙ ap (λ x. sub_in L x a) e ∙ zero_add laws (L.neg a)

  abbrev pub radix : Four (Residue p)
  radix = same_four (residue 4294967296)

  abbrev pub radix_inverse : Four (Residue p)
  radix_inverse = same_four (residue i)

  radix-inverse : L.mul radix_inverse radix ≡ L.one
  radix-inverse =
      let each : R.mul (residue i) (residue 4294967296) ≡ R.one = residue_of_mul p positive i 4294967296 ∙ residue_same _ _ facts.radix_inverts in
      four_same _ _ each each each each

  -- Lanes that are zero store zero.
  pub zero_lanes : (xs : List ℕ) → slice_index xs 0 ≡ 0 → slice_index xs 1 ≡ 0 → slice_index xs 2 ≡ 0 → slice_index xs 3 ≡ 0 → from_lanes p i positive xs ≡ L.zero
  zero_lanes xs e f g h =
      let zero_times : 0 * i ≡ 0 = omega arith in
      let none : from_stored 0 ≡ residue 0 = residue_same _ _ (ap (λ x. x % p) zero_times) in
      four_same _ _ (ap from_stored e ∙ none) (ap from_stored f ∙ none) (ap from_stored g ∙ none) (ap from_stored h ∙ none)

  -- A whole number as four elements.
  four_of_nat : (n : ℕ) → of_nat L n ≡ same_four (of_nat R n)
  unfolding of_nat
  four_of_nat zero = refl
  four_of_nat (suc n) = ap (L.add L.one) (four_of_nat n)

  number_four : (n : ℕ) → lanes_w p positive n ≡ of_nat L n
  number_four n = sym (four_of_nat n ∙ ap same_four (of_nat_is p positive n))

  -- 3 times four elements, by sums.
  pub three_times : (x a r : Four (Residue p)) → a ≡ L.add x x → r ≡ L.add a x → r ≡ L.mul (lanes_w p positive 3) x
  three_times x a r ea er =
      let three = number_four 3 in
      ring_given laws (x ∷ a ∷ r ∷ lanes_w p positive 3 ∷ [])
      ((con 1, var 2, var 1 :+ var 0) ∷ (con 1, var 1, var 0 :+ var 0) ∷ (:neg (var 0), var 3, con 3) ∷ [])
      (var 2) (var 3 :* var 0) (er, (ea, (three, tt))) refl

  -- 11 times four elements, by sums.
  pub eleven_times : (x a b c s r : Four (Residue p)) → a ≡ L.add x x → b ≡ L.add a a → c ≡ L.add b b → s ≡ L.add c a → r ≡ L.add s x
      → r ≡ L.mul (lanes_w p positive 11) x
  eleven_times x a b c s r ea eb ec es er =
      let eleven = number_four 11 in
      let X = var 0 in
      let A = var 1 in
      let B = var 2 in
      let C = var 3 in
      let S = var 4 in
      let R = var 5 in
      let W = var 6 in
      ring_given laws (x ∷ a ∷ b ∷ c ∷ s ∷ r ∷ lanes_w p positive 11 ∷ [])
      ((con 1, R, S :+ X) ∷ (con 1, S, C :+ A) ∷ (con 1, C, B :+ B) ∷ (con 2, B, A :+ A) ∷ (con 5, A, X :+ X) ∷ (:neg X, W, con 11) ∷ [])
      R (W :* X) (er, (es, (ec, (eb, (ea, (eleven, tt)))))) refl

  -- What is reduced from 2^32 times elements are the elements.
  pub lanes_reduced_to : (s : Four ℕ) (a r : Four (Residue p)) → map_four from_stored s ≡ L.mul radix a → r ≡ L.mul radix_inverse (map_four from_stored s) → r ≡ a
  lanes_reduced_to s a r e f =
      ring_given laws (r ∷ a ∷ map_four from_stored s ∷ radix_inverse ∷ radix ∷ [])
      ((con 1, var 0, var 3 :* var 2) ∷ (var 3, var 2, var 4 :* var 1) ∷ (var 1, var 3 :* var 4, con 1) ∷ [])
      (var 0) (var 1) (f, (e, (radix-inverse, tt))) refl

  -- The numbers of both, added.
  sums_stored : (x y : Four ℕ) → map_four from_stored (zip_four (λ (m n : ℕ). m + n) x y) ≡ L.add (map_four from_stored x) (map_four from_stored y)
  sums_stored x y =
      four_same _ _ (add_stored positive facts x.first y.first (x.first + y.first) refl) (add_stored positive facts x.second y.second (x.second + y.second) refl)
      (add_stored positive facts x.third y.third (x.third + y.third) refl) (add_stored positive facts x.fourth y.fourth (x.fourth + y.fourth) refl)

  pub lanes_summed : (x y s : Four ℕ) (a b : Four (Residue p)) → s ≡ zip_four (λ (m n : ℕ). m + n) x y → map_four from_stored x ≡ L.mul radix a → map_four from_stored y ≡ L.mul radix b
      → map_four from_stored s ≡ L.mul radix (L.add a b)
  lanes_summed x y s a b e f g =
      ap (map_four from_stored) e ∙ sums_stored x y
      ∙ ap₂ (λ (u v : Four (Residue p)). L.add u v) f g
      ∙ sym (laws.mul_add radix a b)
