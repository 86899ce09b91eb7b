-- Windows: what constraints see of a trace on one row.
use Rattle.std.specs.Prelude.{ℕ, ◌+◌, ◌%◌, ◌==◌, Bool, false, not, List, [], Option, None, Some}
use Rattle.matrix.specs.Matrix.{Matrix, height, row}

-- The current row and the next one of the main and the preprocessed trace, the public values, and
-- whether the row is the first, the last, or one with a next row. This is the window of an
-- algebraic intermediate representation, as in the ethSTARK documentation, eprint 2021/582, section
-- 4.
pub record Window (F : Type 0) : Type 0 where
  pub main : List F
  pub main_next : List F
  pub preprocessed : List F
  pub preprocessed_next : List F
  pub public_values : List F
  pub is_first : Bool
  pub is_last : Bool
  pub is_transition : Bool

-- A window with the current row and the next one of the permutation trace, the challenges, and the
-- values of the permutation argument, all in an extension of the field.
pub record ExtWindow (F EF : Type 0) : Type 0 where
  pub base : Window F
  pub permutation : List EF
  pub permutation_next : List EF
  pub challenges : List EF
  pub permutation_values : List EF

-- the empty window, which belongs to no row
abbrev pub empty_window : {F : Type 0} → Window F
empty_window = record {
  main = [];
  main_next = [];
  preprocessed = [];
  preprocessed_next = [];
  public_values = [];
  is_first = false;
  is_last = false;
  is_transition = false;
}

-- the same, with an empty permutation argument
abbrev pub empty_ext_window : {F EF : Type 0} → ExtWindow F EF
empty_ext_window = record {
  base = empty_window;
  permutation = [];
  permutation_next = [];
  challenges = [];
  permutation_values = [];
}

-- row r of a trace that may be absent; the row is then empty
abbrev pub row_of_option : {F : Type 0} → Option (Matrix F) → ℕ → List F
row_of_option None r = []
row_of_option (Some m) r = row m r

-- The window of row r of traces of height h: row r with row r + 1 modulo h. So the last row comes
-- with the first one.
abbrev pub window_at : {F : Type 0} → Matrix F → Option (Matrix F) → List F → ℕ → ℕ → Window F
window_at main preprocessed public_values h r = record {
  main = row main r;
  main_next = row main ((r + 1) % h);
  preprocessed = row_of_option preprocessed r;
  preprocessed_next = row_of_option preprocessed ((r + 1) % h);
  public_values = public_values;
  is_first = r == 0;
  is_last = r + 1 == h;
  is_transition = not (r + 1 == h);
}

-- The window of row r with the rows of a permutation trace, the challenges and the permutation
-- values.
abbrev pub ext_window_at : {F EF : Type 0} → Matrix F → Option (Matrix F) → List F → Matrix EF → List EF → List EF → ℕ → ExtWindow F EF
ext_window_at main preprocessed public_values permutation challenges permutation_values r = record {
  base = window_at main preprocessed public_values (height main) r;
  permutation = row permutation r;
  permutation_next = row permutation ((r + 1) % height main);
  challenges = challenges;
  permutation_values = permutation_values;
}
