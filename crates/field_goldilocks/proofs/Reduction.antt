-- How numbers of 128 bits are reduced modulo 2^64 - 2^32 + 1.
use Rattle.std.proofs.Common.{inl, inr, ◌≡◌, ℕ, zero, suc, ◌+◌, ◌-◌, ◌*◌, ◌%◌, ◌<◌, ◌≤◌, sym, ap, ◌∙◌, arith}
use Rattle.std.proofs.lemmas.Bool.{cases_lt}
use native.Mathlib.Nat.{add-mul-mod_self_right}
use Rattle.field_goldilocks.specs.Goldilocks.{goldilocks_of}
use Rattle.field.specs.Residue.{residue_same}

-- Numbers that differ by multiples of the modulus have one residue.
pub same_residue : (m n j k : ℕ) → m + j * 18446744069414584321 ≡ n + k * 18446744069414584321 → goldilocks_of m ≡ goldilocks_of n
same_residue m n j k e =
    residue_same _ _ (sym (add-mul-mod_self_right m j 18446744069414584321) ∙ (ap (λ x. x % 18446744069414584321) e ∙ add-mul-mod_self_right n k 18446744069414584321))

-- Three parts, where t is the difference of the first and the last, and s its sum with the second's multiple.
pub parts : (low middle high t s : ℕ) → (low < high → t + high ≡ low + 18446744069414584321) → (high ≤ low → t + high ≡ low)
    → (18446744073709551616 ≤ t + middle * 4294967295 → s + 18446744069414584321 ≡ t + middle * 4294967295) → (t + middle * 4294967295 < 18446744073709551616 → s ≡ t + middle * 4294967295)
    → goldilocks_of s ≡ goldilocks_of (low + 18446744073709551616 * (middle + 4294967296 * high))
parts low middle high t s borrowing plain carrying fitting = elim (cases_lt low high) [
  | inl below ↦ (let borrowed = borrowing below in elim (cases_lt (t + middle * 4294967295) 18446744073709551616) [
    | inl fits ↦ (let total = fitting fits in same_residue s _ (middle + 4294967297 * high) 1 (omega arith))
    | inr over ↦ (let total = carrying over in same_residue s _ (middle + 4294967297 * high) 0 (omega arith))
  ])
  | inr above ↦ (let less = plain above in elim (cases_lt (t + middle * 4294967295) 18446744073709551616) [
    | inl fits ↦ (let total = fitting fits in same_residue s _ (middle + 4294967297 * high) 0 (omega arith))
    | inr over ↦ (let total = carrying over in same_residue s _ (1 + middle + 4294967297 * high) 0 (omega arith))
  ])
]

-- A number, less the modulus if that leaves a number.
pub once_reduced : (x r : ℕ) → (x < 18446744069414584321 → r ≡ x) → (18446744069414584321 ≤ x → r ≡ x - 18446744069414584321) → goldilocks_of r ≡ goldilocks_of x
once_reduced x r kept lowered = elim (cases_lt x 18446744069414584321) [
  | inl h ↦ ap goldilocks_of (kept h)
  | inr h ↦ (let given = lowered h in same_residue r x 1 0 (omega arith))
]

-- A sum, as the difference from what is missing to the modulus.
pub added : (a b d : ℕ) → b ≤ 18446744069414584321 → (a < 18446744069414584321 - b → d + (18446744069414584321 - b) ≡ a + 18446744069414584321) → (18446744069414584321 - b ≤ a → d + (18446744069414584321 - b) ≡ a) → goldilocks_of d ≡ goldilocks_of (a + b)
added a b d fits borrowing plain = elim (cases_lt a (18446744069414584321 - b)) [
  | inl h ↦ (let given = borrowing h in same_residue d _ 0 0 (omega arith))
  | inr h ↦ (let given = plain h in same_residue d _ 1 0 (omega arith))
]

-- A difference.
pub subtracted : (a b d : ℕ) → b < 18446744069414584321 → (a < b → d + b ≡ a + 18446744069414584321) → (b ≤ a → d + b ≡ a) → goldilocks_of d ≡ goldilocks_of (a + (18446744069414584321 - b) % 18446744069414584321)
subtracted zero b d fits borrowing plain = elim (cases_lt 0 b) [
  | inl h ↦ (let given = borrowing h in same_residue d _ 0 0 (omega arith))
  | inr h ↦ (let given = plain h in same_residue d _ 0 0 (omega arith))
]
subtracted (suc a) b d fits borrowing plain = elim (cases_lt (suc a) b) [
  | inl h ↦ (let given = borrowing h in same_residue d _ 0 0 (omega arith))
  | inr h ↦ (let given = plain h in elim (cases_lt 0 b) [
    | inl some ↦ same_residue d _ 1 0 (omega arith)
    | inr none ↦ same_residue d _ 0 0 (omega arith)
  ])
]

-- A negative, as the difference from zero.
pub negated : (b d : ℕ) → (0 < b → d + b ≡ 0 + 18446744069414584321) → (b ≤ 0 → d + b ≡ 0) → b < 18446744069414584321 → goldilocks_of d ≡ goldilocks_of (18446744069414584321 - b)
negated b d borrowing plain fits = elim (cases_lt 0 b) [
  | inl h ↦ (let given = borrowing h in same_residue d _ 0 0 (omega arith))
  | inr h ↦ (let given = plain h in same_residue d _ 1 0 (omega arith))
]
