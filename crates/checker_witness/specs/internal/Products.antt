-- The constraint of a fraction, for one tuple without flags.
use Rattle.std.specs.Prelude.{◌≡◌, ◌-◌, ◌+◌, ℕ, slice_index_or}
use Rattle.field.specs.Ring.{Ring}
use Rattle.lookup_columns.specs.declared.columns.BranchColumns.{BranchColumns}
use Rattle.matrix.specs.Matrix.{Matrix, row}

-- the fraction of a lookup's column on a row
abbrev pub fraction_on : {K : Type 0} → Ring K → Matrix K → ℕ → ℕ → K
fraction_on S aux column r = slice_index_or (row aux r) (column + 1) S.zero

-- On row r the denominator of a tuple times the fraction is the multiplicity. The tuple's columns begin with
-- row `first`.
abbrev pub HasMultiplicity : {F K : Type 0} → Ring F → Ring K → (F → K) → BranchColumns F K → Matrix K → ℕ → ℕ → ℕ → Type 0
HasMultiplicity R S embed branch aux column first r =
    S.mul (slice_index_or branch.denominators.items (r - first) S.zero) (fraction_on S aux column r)
    ≡ embed (slice_index_or branch.multiplicities.items (r - first) R.zero)
