-- What a shift of rows answers from numbers.
use Rattle.std.specs.Prelude.{◌<◌, ◌≡◌, ◌⊎◌, ℕ, false, true, List, length, map}
use Rattle.field.specs.Residue.{Residue}
use Rattle.field_monty.specs.Quartic.{Quartic}
use Rattle.field.specs.Ring.{Ring}
use Rattle.lookup_generation.specs.Ranges.{shifted_matrix}
use Rattle.matrix.specs.Matrix.{Matrix}
use Rattle.c_tables.specs.Numbers.{AreNumberGroupsBelow, IsFirstLargeNumberGroup, IsNumberGroup, quartic_of_numbers}
use Rattle.c_tables.specs.TraceNumbers.{makes_rows}
use Rattle.c_calls.specs.CallAnswers.{CallAnswers}
use Rattle.c_calls.specs.Outputs.{output_cells}
use Rattle.c_calls.specs.declared.codes.Part.TheVariants.{Auxiliary, Offset}
use Rattle.c_calls.specs.declared.fault.Fault.{Fault}
use Rattle.c_calls.specs.declared.fault.Fault.TheVariants.{Large, Ragged}
use Rattle.c_calls.specs.declared.refusal.Refusal.{Refusal}

-- the rows of this width that have these cells
abbrev pub shift_rows : {p : ℕ} → 0 < p → List (List ℕ) → ℕ → Matrix (Quartic (Residue p))
shift_rows positive cells width = record { values = map (quartic_of_numbers positive) cells; width = width }

-- the numbers of these rows, each shifted by an offset
abbrev pub shifted_cells : {p : ℕ} → 0 < p → Ring (Quartic (Residue p)) → Quartic (Residue p) → ℕ → List (List ℕ) → List (List ℕ)
shifted_cells positive R offset width cells = output_cells (shifted_matrix R offset (shift_rows positive cells width))

module _ {p : ℕ} (positive : 0 < p) (cells : List (List ℕ)) (width : ℕ) (offset : List ℕ) where
  -- The cells make whole rows; they and the offset are below the modulus. Each row is shifted by the offset.
  pub record ShiftsCells (R : Ring (Quartic (Residue p))) (after : List (List ℕ)) : Type 0 where
    pub offset_below : IsNumberGroup p offset
    pub whole : makes_rows (length cells) width ≡ true
    pub cells_below : AreNumberGroupsBelow p (length cells) cells
    pub after_is : after ≡ shifted_cells positive R (quartic_of_numbers positive offset) width cells

-- the refusal of the offset, of cells that make no whole rows, or of the first cell that is no element
abbrev pub IsShiftRefusal : ℕ → List (List ℕ) → ℕ → List ℕ → Fault → Type 0
IsShiftRefusal p cells width offset fault =
    ((fault ≡ Large Offset 0 0) × (¬ IsNumberGroup p offset))
    ⊎ (((fault ≡ Ragged 0) × (makes_rows (length cells) width ≡ false))
    ⊎ (i : ℕ) × (fault ≡ Large Auxiliary 0 i) × IsFirstLargeNumberGroup p cells i)

-- the code and the refusal of a call that shifts rows
abbrev pub AnswersShift : {p : ℕ} → 0 < p → Ring (Quartic (Residue p)) → List (List ℕ) → ℕ → List ℕ → List (List ℕ) → ℕ → Refusal → Type 0
AnswersShift {p} positive R cells width offset after code refusal = CallAnswers code refusal (ShiftsCells positive cells width offset R after) (IsShiftRefusal p cells width offset)
