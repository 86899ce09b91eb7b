-- What words write.
use Rattle.std.proofs.Common.{◌≡◌, ◌<◌, ◌&&◌, ℕ, Bool, true, cond, nat_lt, List, length, get_or, arith, refl, lt-ltb}
use Rattle.std.specs.Int.{IsInRange, IsOutOfRange}
use Rattle.std.specs.Str.{all_ascii_digits}
use Rattle.std.specs.Str.Parse.{AllDigits, digits_value}
use Rattle.std.proofs.lemmas.Str.Parse.{IsNumeralModel, digit_at, numerals_by_value, tells_all_ascii_digits}
use Rattle.language.specs.declared.number.Decimal.TheVariants.{Other}
use Rattle.language.specs.Numbers.{decimal_in, decimal_of, short_number}

-- the texts of ASCII digits are the texts of digits to the base 10
ascii_digits : IsNumeralModel (λ ds. all_ascii_digits ds ≡ true) (digits_value 10)
ascii_digits = numerals_by_value (λ ds. all_ascii_digits ds ≡ true) tells_all_ascii_digits

-- what stands where a test fails
other_value : {A : Type 0} (a b : Bool) (x y : A) → (b ≡ true → ⊥) → cond (a && b) x y ≡ y
other_value a b x y fails = grind arith

-- nothing is in a range and out of it
not_both : (low high c : ℕ) → IsInRange low high c → IsOutOfRange low high c → ⊥
not_both low high c inside outside = grind (arith, inside, outside)

-- no bytes write no number
pub decimal_of-empty : (word : List ℕ) → length word ≡ 0 → decimal_of word ≡ Other
unfolding decimal_of
decimal_of-empty word empty = rw empty refl

-- a byte that is no digit is in no number
pub decimal_of-other : (word : List ℕ) (i : ℕ) → i < length word → IsOutOfRange 48 57 (get_or word i 0) → decimal_of word ≡ Other
unfolding decimal_of
decimal_of-other word i within other =
    other_value _ (all_ascii_digits word) _ _ (λ all. not_both 48 57 (get_or word i 0) (digit_at word i (ascii_digits.to word all) within) other)

-- digits write their value
pub decimal_of-digits : (word : List ℕ) → 0 < length word → AllDigits 10 word → decimal_of word ≡ decimal_in (short_number (digits_value 10 word))
unfolding decimal_of
decimal_of-digits word some digits =
    let first : nat_lt 0 (length word) ≡ true = lt-ltb 0 (length word) some in
    let all : all_ascii_digits word ≡ true = ascii_digits.from word digits in
    rw (first, all) refl
