-- What words write: numbers, and elements of fields.
use Rattle.std.specs.Prelude.{◌≡◌, ◌==◌, ◌&&◌, ℕ, Bool, List, Option, Some, None, is_some, length, map, min, nat_lt, if◌then◌else◌}
use Rattle.std.specs.List.{slice_split}
use Rattle.std.specs.Str.{all_ascii_digits}
use Rattle.std.specs.Str.Parse.{digits_value}
use Rattle.field.specs.Residue.{Residue}
use Rattle.field_monty.specs.Quartic.{Quartic, coefficients_of}
use Rattle.field_goldilocks.specs.Quadratic.{Quadratic, coefficients_of as quadratic_coefficients_of}

-- the number that a word writes: the value of one or more decimal digits, if it is below the bound
unfoldable pub number_of : ℕ → List ℕ → Option ℕ
number_of bound word =
    if nat_lt 0 (length word) && all_ascii_digits word && nat_lt (digits_value 10 word) bound then Some (digits_value 10 word) else None

-- whether a word writes a number below the bound
abbrev pub is_number : ℕ → List ℕ → Bool
is_number bound word = is_some (number_of bound word)

-- the bound of the numbers of words: the lesser of this bound and 2^64
abbrev pub number_bound : ℕ → ℕ
number_bound bound = min bound 18446744073709551616

-- the word is a number below p, and the residue is that number
abbrev pub WritesResidue : {p : ℕ} → List ℕ → Residue p → Type 0
WritesResidue {p} word x = number_of p word ≡ Some x.value

-- the word is these numbers, separated by commas, each below the bound
abbrev pub WritesNumbers : ℕ → List ℕ → List ℕ → Type 0
WritesNumbers bound word numbers = map (number_of bound) (slice_split (λ byte. byte == 44) word) ≡ map Some numbers

-- the word is four numbers below p: these four coefficients, lowest power first
abbrev pub WritesQuartic : {p : ℕ} → List ℕ → Quartic (Residue p) → Type 0
WritesQuartic {p} word x = WritesNumbers p word (map (λ c. c.value) (coefficients_of x))

-- the word is two numbers below p: these two coefficients, lowest power first
abbrev pub WritesQuadratic : {p : ℕ} → List ℕ → Quadratic (Residue p) → Type 0
WritesQuadratic {p} word x = WritesNumbers p word (map (λ c. c.value) (quadratic_coefficients_of x))
