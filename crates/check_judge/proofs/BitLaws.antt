-- Powers of two below a size, and targets.
use Rattle.std.proofs.Common.{◌≡◌, ◌⊎◌, ◌↔◌, ◌+◌, ◌-◌, ◌*◌, ◌^◌, ◌<◌, ◌≤◌, ◌∙◌, ℕ, Bool, IsTrue, Option, Some, inl, inr, arith, min, sym, subst}
use Rattle.std.proofs.Math.Nat.{mul-le-mul_left, le-mul_of_pos_right}
use Rattle.std.proofs.Math.Pow.{pow_mono}
use Rattle.std.proofs.lemmas.Bool.{cases_lt}
use Rattle.std.proofs.lemmas.Nat.{pow_pos}
use Rattle.check_judge.specs.Bits.{MeetsTarget}

-- as many bits are left as are wanted exactly if they are at most the greatest number that is left
pub enough : (size bad wanted bits : ℕ) → bad * 2 ^ bits ≤ size → size < bad * 2 ^ (bits + 1) → (wanted ≤ bits) ↔ (bad * 2 ^ wanted ≤ size)
enough size bad wanted bits left most = (
  λ le. omega (arith, left, mul-le-mul_left bad (pow_mono le)),
  λ few. elim (cases_lt wanted (bits + 1)) [
    | inl below ↦ omega (arith, below)
    | inr above ↦ absurd (omega (arith, few, most, mul-le-mul_left bad (pow_mono above)))
  ],
)

-- if some of all choices deceive, and those are more than there are, no bit is left
pub none_left : (size bad wanted : ℕ) → size < bad → ¬ (bad * 2 ^ wanted ≤ size)
none_left size bad wanted more few = omega (arith, more, few, le-mul_of_pos_right bad (pow_pos wanted))

-- if all choices deceive, and more, no bit is left
pub no_bit_left : (size bad wanted : ℕ) → size ≤ bad → 0 < bad → 0 < wanted → ¬ (bad * 2 ^ wanted ≤ size)
no_bit_left size bad wanted all some one left =
    let twice : bad * 2 ^ 1 ≤ bad * 2 ^ wanted = mul-le-mul_left bad (pow_mono one) in
    omega (arith, all, some, left, twice)

-- a saturated sum is as good as the sum, where a bit at least is wanted, and the greatest number is not below the size
pub saturated_sum : (size sum most wanted : ℕ) → size ≤ most → 0 < most → 0 < wanted → (min sum most * 2 ^ wanted ≤ size) ↔ (sum * 2 ^ wanted ≤ size)
saturated_sum size sum most wanted few some one = elim (cases_lt most sum) [
  | inl more ↦
      let is : min sum most ≡ most = omega (arith, more) in (
        λ le. absurd (no_bit_left size most wanted few some one (subst (λ n. n * 2 ^ wanted ≤ size) is le)),
        λ le. absurd (none_left size sum wanted (omega (arith, few, more)) le),
      )
  | inr less ↦
      let is : min sum most ≡ sum = omega (arith, less) in
      (λ le. subst (λ n. n * 2 ^ wanted ≤ size) is le, λ le. subst (λ n. n * 2 ^ wanted ≤ size) (sym is) le)
]

-- no bit is wanted, or a saturated sum is as good as the sum, for a size of 128 bits
target_by_sum : (size sum wanted : ℕ) → size < 2 ^ 128 → ((wanted ≡ 0) ⊎ (min sum (2 ^ 128 - 1) * 2 ^ wanted ≤ size)) ↔ ((wanted ≡ 0) ⊎ (sum * 2 ^ wanted ≤ size))
target_by_sum size sum wanted fits = elim (cases_lt 0 wanted) [
  | inr zero ↦ (λ _. inl (omega (arith, zero)), λ _. inl (omega (arith, zero)))
  | inl one ↦
      let both = saturated_sum size sum (2 ^ 128 - 1) wanted (omega (arith, fits)) (omega arith) one in (
        λ left. elim left [ inl none ↦ inl none | inr few ↦ inr (both.0 few) ],
        λ left. elim left [ inl none ↦ inl none | inr few ↦ inr (both.1 few) ],
      )
]

-- a target is met exactly if as many bits are left as it wants
pub target_met : (size : ℕ) (target alphas : Option ℕ) (betas wanted more : ℕ) (met : Bool) → size < 2 ^ 128 → target ≡ Some wanted → alphas ≡ Some more
    → IsTrue met ↔ ((wanted ≡ 0) ⊎ (min (betas + more) (2 ^ 128 - 1) * 2 ^ wanted ≤ size)) → IsTrue met ↔ MeetsTarget size target betas alphas
target_met size target alphas betas wanted more met fits is there left =
    let both = target_by_sum size (betas + more) wanted fits in (
      λ t bits bits_are a a_is.
          let same_bits : wanted ≡ bits = cc (sym is ∙ bits_are) in
          let same_alphas : more ≡ a = cc (sym there ∙ a_is) in
          subst (λ n. (bits ≡ 0) ⊎ ((betas + n) * 2 ^ bits ≤ size)) same_alphas
          (subst (λ n. (n ≡ 0) ⊎ ((betas + more) * 2 ^ n ≤ size)) same_bits (both.0 (left.0 t))),
      λ meets. left.1 (both.1 (meets wanted is more there)),
    )
