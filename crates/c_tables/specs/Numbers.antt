-- Numbers as elements modulo p, and elements as numbers.
use Rattle.std.specs.Prelude.{◌≡◌, ◌<◌, ◌≤◌, ℕ, List, Some, length, map, slice_get, slice_index}
use Rattle.field_monty.specs.Quartic.{Quartic, coefficients_of}
use Rattle.field.specs.Residue.{Residue, residue_of}

-- the numbers of an element of the extension: its coefficients, lowest power first
abbrev pub numbers_of : {p : ℕ} → Quartic (Residue p) → List ℕ
numbers_of x = map (λ c. c.value) (coefficients_of x)

-- the element of the extension with these numbers as coefficients
abbrev pub quartic_of_numbers : {p : ℕ} → 0 < p → List ℕ → Quartic (Residue p)
quartic_of_numbers {p} positive ns = record {
  c0 = residue_of p positive (slice_index ns 0);
  c1 = residue_of p positive (slice_index ns 1);
  c2 = residue_of p positive (slice_index ns 2);
  c3 = residue_of p positive (slice_index ns 3);
}

module _ (p : ℕ) where
  -- the first n numbers are below the modulus
  abbrev pub AreNumbersBelow : ℕ → List ℕ → Type 0
  AreNumbersBelow n numbers = (k : ℕ) → k < n → slice_index numbers k < p

  -- number i is not below the modulus, and all those before it are
  pub record IsFirstLargeNumber (numbers : List ℕ) (i : ℕ) : Type 0 where
    pub within : i < length numbers
    pub large : p ≤ slice_index numbers i
    pub before : AreNumbersBelow i numbers

  -- four numbers below the modulus
  pub record IsNumberGroup (ns : List ℕ) : Type 0 where
    pub n0 : slice_index ns 0 < p
    pub n1 : slice_index ns 1 < p
    pub n2 : slice_index ns 2 < p
    pub n3 : slice_index ns 3 < p

  -- the first n groups of four are such
  abbrev pub AreNumberGroupsBelow : ℕ → List (List ℕ) → Type 0
  AreNumberGroupsBelow n groups = (k : ℕ) (group : List ℕ) → k < n → slice_get groups k ≡ Some group → IsNumberGroup group

  -- group i has a number that is not below the modulus, and the groups before it have none
  pub record IsFirstLargeNumberGroup (groups : List (List ℕ)) (i : ℕ) : Type 0 where
    pub group : List ℕ
    pub is_there : slice_get groups i ≡ Some group
    pub large : ¬ IsNumberGroup group
    pub before : AreNumberGroupsBelow i groups
