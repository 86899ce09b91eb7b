-- Which words write numbers, and which residues.
use Rattle.std.proofs.Common.{◌≡◌, ◌<◌, ◌≤◌, ◌+◌, ◌*◌, ◌⊎◌, ◌&&◌, ℕ, zero, suc, Bool, true, cond, nat_lt, List, [], ◌∷◌, Option, Some, None, MatchOption, option_map, length, map, get_or, take, ap, inl, inr, arith, refl, sym, ◌∙◌, lit≤, ltb-true, lt-ltb}
use Rattle.std.specs.Char.{digit_value}
use Rattle.std.specs.Int.{IsInRange, IsOutOfRange}
use Rattle.std.specs.Str.{all_ascii_digits}
use Rattle.std.specs.Str.Parse.{digits_value}
use Rattle.std.proofs.lemmas.Int.Digits.{digits_value_more}
use Rattle.std.proofs.lemmas.Str.Parse.{IsNumeralModel, digit_at, digits_value-take-le, numerals_by_value, tells_all_ascii_digits}
use native.Mathlib.Nat.{mod-eq_of_lt}
use Rattle.field.specs.Residue.{Residue, residue_of}
use Rattle.field.specs.ResidueRing.{residue_ring}
use Rattle.field.specs.laws.ResidueRing.{of_nat_is}
use Rattle.field.specs.Ring.{of_nat}
use Rattle.field_words.specs.Words.{number_of, WritesResidue}

-- the word is one or more decimal digits, and their value is below the bound
pub record IsNumber (bound : ℕ) (word : List ℕ) : Type 0 where
  pub some : 0 < length word
  pub digits : all_ascii_digits word ≡ true
  pub below : digits_value 10 word < bound

-- a value stands exactly where three tests pass
three_tests : {A : Type 0} (a b c : Bool) (x : A) → ((cond (a && b && c) (Some x) None ≡ Some x) × (a ≡ true) × (b ≡ true) × (c ≡ true)) ⊎ ((cond (a && b && c) (Some x) None ≡ None) × (a ≡ true → b ≡ true → c ≡ true → ⊥))
three_tests a b c x = grind arith

-- a word that is a number writes its value, and another writes none
pub number_of-cases : (bound : ℕ) (word : List ℕ) → ((number_of bound word ≡ Some (digits_value 10 word)) × IsNumber bound word) ⊎ ((number_of bound word ≡ None) × ¬ (IsNumber bound word))
unfolding number_of
number_of-cases bound word =
    elim (three_tests (nat_lt 0 (length word)) (all_ascii_digits word) (nat_lt (digits_value 10 word) bound) (digits_value 10 word)) [
      | inl w ↦ inl (w.0, record { some = ltb-true 0 (length word) w.1; digits = w.2; below = ltb-true (digits_value 10 word) bound w.3 })
      | inr w ↦ inr (w.0, λ n. w.1 (lt-ltb 0 (length word) n.some) n.digits (lt-ltb (digits_value 10 word) bound n.below))
    ]

-- a word that is no number writes none
pub number_of-none : (bound : ℕ) (word : List ℕ) → ¬ (IsNumber bound word) → number_of bound word ≡ None
number_of-none bound word other = elim (number_of-cases bound word) [ inl w ↦ absurd (other w.1) | inr w ↦ w.0 ]

-- a number writes its value
pub number_of-some : (bound : ℕ) (word : List ℕ) → IsNumber bound word → number_of bound word ≡ Some (digits_value 10 word)
number_of-some bound word is = elim (number_of-cases bound word) [ inl w ↦ w.0 | inr w ↦ absurd (w.1 is) ]

-- the texts of ASCII digits are the texts of digits to the base 10
pub ascii_digits : IsNumeralModel (λ ds. all_ascii_digits ds ≡ true) (digits_value 10)
ascii_digits = numerals_by_value (λ ds. all_ascii_digits ds ≡ true) tells_all_ascii_digits

-- nothing is in a range and out of it
not_both : (low high c : ℕ) → IsInRange low high c → IsOutOfRange low high c → ⊥
not_both low high c inside outside = grind (arith, inside, outside)

-- a word with a byte that is no digit writes no number
pub number_of-other : (bound : ℕ) (word : List ℕ) (i : ℕ) → i < length word → IsOutOfRange 48 57 (get_or word i 0) → number_of bound word ≡ None
number_of-other bound word i within other =
    number_of-none bound word (λ n. not_both 48 57 (get_or word i 0) (digit_at word i (ascii_digits.to word n.digits) within) other)

-- a word whose first digits have a value past the bound writes no number
pub number_of-large : (bound : ℕ) (word : List ℕ) (i : ℕ) → i < length word → bound ≤ digits_value 10 (take i word) * 10 + digit_value (get_or word i 0) → number_of bound word ≡ None
number_of-large bound word i within large =
    number_of-none bound word
    (λ n. let below : digits_value 10 word < bound = n.below in
    let more : digits_value 10 (take (i + 1) word) ≡ digits_value 10 (take i word) * 10 + digit_value (get_or word i 0) = digits_value_more 10 word i within in
    let less : digits_value 10 (take (i + 1) word) ≤ digits_value 10 word = digits_value-take-le 10 word (i + 1) (lit≤ tt) in
    omega arith)

-- numbers that words write are below the bound
pub numbers_below : (bound : ℕ) (words : List (List ℕ)) (numbers : List ℕ) → map (number_of bound) words ≡ map Some numbers → (i : ℕ) → i < length numbers → get_or numbers i 0 < bound
numbers_below bound [] [] writes i within = absurd (omega (arith, within))
numbers_below bound [] (n ∷ numbers) writes i within = cc
numbers_below bound (word ∷ words) [] writes i within = absurd (omega (arith, within))
numbers_below bound (word ∷ words) (n ∷ numbers) writes zero within =
    elim (number_of-cases bound word) [
      | inl w ↦ (let same : ◌≡◌ {A = Option ℕ} (Some (digits_value 10 word)) (Some n) = sym w.0 ∙ cc in let below = w.1.below in grind (arith, same, below))
      | inr w ↦ (let same : ◌≡◌ {A = Option ℕ} None (Some n) = sym w.0 ∙ cc in absurd cc)
    ]
numbers_below bound (word ∷ words) (n ∷ numbers) writes (suc i) within =
    let rest : map (number_of bound) words ≡ map Some numbers = cc in
    numbers_below bound words numbers rest i (omega (arith, within))

-- a list of two or four items is that of its items
pub two_again : (xs : List ℕ) → length xs ≡ 2 → xs ≡ get_or xs 0 0 ∷ get_or xs 1 0 ∷ []
two_again (a ∷ b ∷ []) long = refl
two_again xs long = absurd (omega (arith, long))

pub four_again : (xs : List ℕ) → length xs ≡ 4 → xs ≡ get_or xs 0 0 ∷ get_or xs 1 0 ∷ get_or xs 2 0 ∷ get_or xs 3 0 ∷ []
four_again (a ∷ b ∷ c ∷ d ∷ []) long = refl
four_again xs long = absurd (omega (arith, long))

module _ (p : ℕ) (positive : 0 < p) where
  -- the element that a word's number gives, as a residue
  pub residue-cases : (word : List ℕ) (answer : Option (Residue p)) → answer ≡ option_map (of_nat (residue_ring p positive)) (number_of p word) → MatchOption answer (number_of p word ≡ None) (λ x. number_of p word ≡ Some x.value)
  residue-cases word answer given =
      elim (number_of-cases p word) [
        | inl w ↦
            let n : ℕ = digits_value 10 word in
            let is : answer ≡ Some (residue_of p positive n) = given ∙ ap (option_map (of_nat (residue_ring p positive))) w.0 ∙ ap Some (of_nat_is p positive n) in
            rw is (w.0 ∙ ap Some (sym (mod-eq_of_lt w.1.below)))
        | inr w ↦
            let is : answer ≡ None = given ∙ ap (option_map (of_nat (residue_ring p positive))) w.0 in
            rw is w.0
      ]

  -- so the answer is what the word writes
  pub residue-written : (word : List ℕ) (answer : Option (Residue p)) → answer ≡ option_map (of_nat (residue_ring p positive)) (number_of p word) → MatchOption answer ((x : Residue p) → ¬ (WritesResidue word x)) (λ x. WritesResidue word x)
  residue-written word None given = λ x writes. let e : ◌≡◌ {A = Option ℕ} None (Some x.value) = sym (residue-cases word None given) ∙ writes in cc
  residue-written word (Some x) given = residue-cases word (Some x) given

  -- the residue of a number below p is that number
  value_again : (n : ℕ) → n < p → (of_nat (residue_ring p positive) n).value ≡ n
  value_again n below = ap (λ (x : Residue p). x.value) (of_nat_is p positive n) ∙ mod-eq_of_lt below

  -- a number that a word writes is that of its residue
  pub written_again : (words : List (List ℕ)) (numbers : List ℕ) → map (number_of p) words ≡ map Some numbers → (i : ℕ) → i < length numbers → (x : Residue p) → x ≡ of_nat (residue_ring p positive) (get_or numbers i 0) → x.value ≡ get_or numbers i 0
  written_again words numbers writes i within x is =
      ap (λ (x : Residue p). x.value) is ∙ value_again (get_or numbers i 0) (numbers_below p words numbers writes i within)
