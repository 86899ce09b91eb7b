-- Elements that are whole numbers within bounds.
use Rattle.std.specs.Prelude.{◌≡◌, ◌+◌, ◌≤◌, ℕ, ℤ, if◌then◌else◌, nat_abs}
use Rattle.field.specs.Ring.{Ring, of_int, of_nat, sub_in}
use Rattle.air_constraints.specs.declared.bounds.Range.{Range}
use Rattle.air_constraints.specs.declared.bounds.WholeNumber.{WholeNumber}

module _ {F : Type 0} (R : Ring F) where
  -- a whole number times one
  abbrev pub number_of : WholeNumber → F
  number_of n = if n.minus then R.neg (of_nat R n.size) else of_nat R n.size

  -- An element is the difference of two whole numbers of ones, within a range.
  pub record IsInRange (range : Range) (x : F) : Type 0 where
    pub above : ℕ
    pub below : ℕ
    pub is : x ≡ sub_in R (of_nat R above) (of_nat R below)
    pub up : above ≤ range.up
    pub down : below ≤ range.down

  -- an element is a whole number times one, whose absolute value is at most a bound
  pub record IsWithin (bound : ℕ) (x : F) : Type 0 where
    pub number : ℤ
    pub is : x ≡ of_int R number
    pub most : nat_abs number ≤ bound

-- a range that has room for a number more
abbrev pub Widens : Range → WholeNumber → Range → Type 0
Widens range number wide =
    (wide.up ≡ (if number.minus then range.up else range.up + number.size))
    × (wide.down ≡ (if number.minus then range.down + number.size else range.down))
