-- Matrices: a list of values, row after row, with the width of a row.
use Rattle.std.specs.Prelude.{◌≡◌, ℕ, ◌+◌, ◌*◌, ◌/◌, ◌==◌, if◌then◌else◌, List, length, slice_range}

-- the values of a matrix, row after row, and the width of a row
pub record Matrix (T : Type 0) : Type 0 where
  pub values : List T
  pub width : ℕ

-- the number of rows, 0 if the width is 0
abbrev pub height : {T : Type 0} → Matrix T → ℕ
height m = if m.width == 0 then 0 else (length m.values / m.width)

-- no values if the width is 0, otherwise a whole number of rows
abbrev pub IsShaped : {T : Type 0} → Matrix T → Type 0
IsShaped m = length m.values ≡ height m * m.width

-- row r: the values from r * width up to, but not including, (r + 1) * width
abbrev pub row : {T : Type 0} → Matrix T → ℕ → List T
row m r = slice_range m.values (r * m.width) ((r + 1) * m.width)
