-- Rows of given traces, as constraints see them.
use Rattle.std.specs.Prelude.{◌≡◌, ◌<◌, ℕ, ◌+◌, ◌==◌, not, ◌⊎◌, length, Option, None, Some, Result, Ok, Err}
use Rattle.std.specs.Option.{option_copied}
use Rattle.matrix.specs.Matrix.{Matrix, height}
use Rattle.air_expressions.specs.Layout.{width_of_option}
use Rattle.air_expressions.specs.Window.{ExtWindow, Window, ext_window_at}
use Rattle.air.specs.declared.debug.builder.DebugConstraintBuilder.{DebugConstraintBuilder}
use Rattle.air.specs.declared.debug.inputs.RowInputs.{RowInputs}
use Rattle.air_expressions.specs.declared.error.AirError.{AirError}
use Rattle.air_expressions.specs.declared.layout.AirLayout.{AirLayout}

-- a matrix that belongs to a trace of height h: it has that height, or width 0
abbrev pub HeightFits : {T : Type 0} → ℕ → Matrix T → Type 0
HeightFits h m = (m.width ≡ 0) ⊎ (height m ≡ h)

-- the same for a matrix that may be absent
abbrev pub OptionHeightFits : {T : Type 0} → ℕ → Option (Matrix T) → Type 0
OptionHeightFits h None = Unit {0}
OptionHeightFits h (Some m) = HeightFits h m

-- the window of the row on which a builder checks
abbrev pub row_window : {F EF : Type 0} → DebugConstraintBuilder F EF → Window F
row_window b = record {
  main = b.main.current.now;
  main_next = b.main.next.now;
  preprocessed = b.preprocessed.current.now;
  preprocessed_next = b.preprocessed.next.now;
  public_values = b.public_values.now;
  is_first = b.row == 0;
  is_last = b.row + 1 == b.height;
  is_transition = not (b.row + 1 == b.height);
}

-- that window, with the rows of the permutation trace, the challenges and the permutation values
abbrev pub ext_row_window : {F EF : Type 0} → DebugConstraintBuilder F EF → ExtWindow F EF
ext_row_window b = record {
  base = row_window b;
  permutation = b.permutation.current.now;
  permutation_next = b.permutation.next.now;
  challenges = b.challenges.now;
  permutation_values = b.permutation_values.now;
}

-- the widths of that window
abbrev pub row_layout : {F EF : Type 0} → DebugConstraintBuilder F EF → AirLayout
row_layout b = record {
  preprocessed_width = length b.preprocessed.current.now;
  main_width = length b.main.current.now;
  num_public_values = length b.public_values.now;
  permutation_width = length b.permutation.current.now;
  num_permutation_challenges = length b.challenges.now;
  num_permutation_values = length b.permutation_values.now;
}

-- the window of row r of the inputs; the last row comes with the first one
abbrev pub input_window : {F EF : Type 0} → RowInputs F EF → ℕ → ExtWindow F EF
input_window x r =
    ext_window_at x.main.now (option_copied x.preprocessed) x.public_values.now x.permutation.now x.challenges.now x.permutation_values.now r

-- the widths of the inputs
abbrev pub input_layout : {F EF : Type 0} → RowInputs F EF → AirLayout
input_layout x = record {
  preprocessed_width = width_of_option (option_copied x.preprocessed);
  main_width = x.main.now.width;
  num_public_values = length x.public_values.now;
  permutation_width = x.permutation.now.width;
  num_permutation_challenges = length x.challenges.now;
  num_permutation_values = length x.permutation_values.now;
}

-- a builder checks on row r of the inputs
pub record IsRow {F EF : Type 0} (x : RowInputs F EF) (r : ℕ) (b : DebugConstraintBuilder F EF) : Type 0 where
  pub window : ext_row_window b ≡ input_window x r
  pub layout : row_layout b ≡ input_layout x
  pub row_is : b.row ≡ r
  pub height_is : b.height ≡ height x.main.now

-- an evaluation can return this answer on row r of the inputs
unfoldable pub RowAnswers : {A F EF : Type 0} → (A → DebugConstraintBuilder F EF → Result (Unit {0}) AirError → DebugConstraintBuilder F EF → Type 0) → A → RowInputs F EF → ℕ → Result (Unit {0}) AirError → Type 0
RowAnswers {A} {F} {EF} evaluates air x r answer =
    (before : DebugConstraintBuilder F EF) × (after : DebugConstraintBuilder F EF) × IsRow x r before × evaluates air before answer after

-- The first of so many rows that refuses, with its refusal: each row before it accepts.
abbrev pub IsFirstRefusedRow : (ℕ → Result (Unit {0}) AirError → Type 0) → ℕ → AirError → Type 0
IsFirstRefusedRow answers rows e =
    (r : ℕ) × (r < rows) × answers r (Err e) × ((q : ℕ) → q < r → answers q (Ok tt))
