-- Four lanes less four lanes or less the modulus, as the lesser of two wrapped numbers.
use Rattle.std.proofs.Common.{◌≡◌, ℕ, ◌<◌, ◌+◌, ◌-◌, ◌*◌, ◌^◌, ◌%◌, List, [], ◌∷◌, map, length, cond, ltb, ap, refl, inl, inr, arith}
use Rattle.std.proofs.lemmas.Bool.{cases_Bool, ltb-true, ltb-false}
use Rattle.std.specs.Simd.Lanes.{Each1, zip2}
use lib.Lanes.{sel_l, top}
use Rattle.field_monty.specs.internal.Lanes.{AreDifferences, AreReduced, IsDifference, IsReduced}
use Rattle.field_monty.proofs.LaneCases.{below_four, four_lanes}

-- the lesser of two numbers, chosen by the top bit of a mask
abbrev pub chosen : ℕ → ℕ → ℕ
chosen d e = cond (top 31 (cond (ltb d e) (2 ^ 32 - 1) 0)) d e

-- the wrapped difference
abbrev pub wrapped : ℕ → ℕ → ℕ
wrapped a b = (a + (2 ^ 32 - b)) % 2 ^ 32

-- what the operations on vectors make
abbrev pub lesser : List ℕ → List ℕ → List ℕ
lesser d e = sel_l (map (top 31) (zip2 (λ x y. cond (ltb x y) (2 ^ 32 - 1) 0) d e)) d e

module _ (p : ℕ) (small : p < 2147483648) where
  -- the same plus the modulus
  abbrev pub raised : ℕ → ℕ
  raised d = (d + p) % 2 ^ 32

  is_difference : (a b : ℕ) → a < p → b < p → IsDifference p a b (chosen (wrapped a b) (raised (wrapped a b)))
  is_difference a b first second =
      let d = wrapped a b in
      let e = raised d in
      elim (cases_Bool (ltb d e)) [
        | inl t ↦ (let less = ltb-true d e t in
            let is : chosen d e ≡ d = ap (λ u. cond (top 31 (cond u (2 ^ 32 - 1) 0)) d e) t in
            record { below = omega (arith, small); borrowing = λ h. omega (arith, small); plain = λ h. omega (arith, small) })
        | inr t ↦ (let most = ltb-false d e t in
            let is : chosen d e ≡ e = ap (λ u. cond (top 31 (cond u (2 ^ 32 - 1) 0)) d e) t in
            record { below = omega (arith, small); borrowing = λ h. omega (arith, small); plain = λ h. omega (arith, small) })
      ]

  is_reduced : (x : ℕ) → x < 2 * p → IsReduced p x (chosen x (wrapped x p))
  is_reduced x s =
      let e = wrapped x p in
      elim (cases_Bool (ltb x e)) [
        | inl t ↦ (let less = ltb-true x e t in
            let is : chosen x e ≡ x = ap (λ u. cond (top 31 (cond u (2 ^ 32 - 1) 0)) x e) t in
            record { below = omega (arith, small); kept = λ h. omega (arith, small); lowered = λ h. omega (arith, small) })
        | inr t ↦ (let most = ltb-false x e t in
            let is : chosen x e ≡ e = ap (λ u. cond (top 31 (cond u (2 ^ 32 - 1) 0)) x e) t in
            record { below = omega (arith, small); kept = λ h. omega (arith, small); lowered = λ h. omega (arith, small) })
      ]

  abbrev pub differences : List ℕ → List ℕ → List ℕ
  differences a b =
      let d = zip2 wrapped a b in
      lesser d (zip2 (λ x y. (x + y) % 2 ^ 32) d (p ∷ p ∷ p ∷ p ∷ []))

  abbrev pub reductions : List ℕ → List ℕ
  reductions x = lesser x (zip2 wrapped x (p ∷ p ∷ p ∷ p ∷ []))

  pub are_differences : (a : List ℕ) → length a ≡ 4 → (b : List ℕ) → length b ≡ 4 → Each1 (λ x. x < p) a → Each1 (λ x. x < p) b → AreDifferences p a b (differences a b)
  are_differences =
      four_lanes (λ a. (b : List ℕ) → length b ≡ 4 → Each1 (λ x. x < p) a → Each1 (λ x. x < p) b → AreDifferences p a b (differences a b)) (λ a0 a1 a2 a3.
      four_lanes (λ b. Each1 (λ x. x < p) (a0 ∷ a1 ∷ a2 ∷ a3 ∷ []) → Each1 (λ x. x < p) b → AreDifferences p (a0 ∷ a1 ∷ a2 ∷ a3 ∷ []) b (differences (a0 ∷ a1 ∷ a2 ∷ a3 ∷ []) b)) (λ b0 b1 b2 b3 p q.
      let r0 = is_difference a0 b0 p.0 q.0 in
      let r1 = is_difference a1 b1 p.1.0 q.1.0 in
      let r2 = is_difference a2 b2 p.1.1.0 q.1.1.0 in
      let r3 = is_difference a3 b3 p.1.1.1.0 q.1.1.1.0 in
      record {
        stored = record { long = refl; below = (r0.below, (r1.below, (r2.below, (r3.below, tt)))) };
        each = below_four _ r0 r1 r2 r3;
      }))

  pub are_reduced : (x : List ℕ) → length x ≡ 4 → Each1 (λ n. n < 2 * p) x → AreReduced p x (reductions x)
  are_reduced =
      four_lanes (λ x. Each1 (λ n. n < 2 * p) x → AreReduced p x (reductions x)) (λ x0 x1 x2 x3 p.
      let r0 = is_reduced x0 p.0 in
      let r1 = is_reduced x1 p.1.0 in
      let r2 = is_reduced x2 p.1.1.0 in
      let r3 = is_reduced x3 p.1.1.1.0 in
      record {
        stored = record { long = refl; below = (r0.below, (r1.below, (r2.below, (r3.below, tt)))) };
        each = below_four _ r0 r1 r2 r3;
      })
