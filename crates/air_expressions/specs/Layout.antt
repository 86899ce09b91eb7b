-- Layouts: the widths that a builder works with, and which expressions stay within them.
use Rattle.std.specs.Prelude.{ℕ, ◌<◌, ◌≤◌, ◌==◌, not, if◌then◌else◌, List, length, Option, None, Some}
use Rattle.matrix.specs.Matrix.{Matrix}
use Rattle.air_expressions.specs.declared.error.AirError.{AirError}
use Rattle.air_expressions.specs.declared.error.AirError.TheVariants.{LayoutMismatch}
use Rattle.air_expressions.specs.declared.error.LayoutPart.TheVariants.{Main as Main', Preprocessed as Preprocessed', PublicValues}
use Rattle.air_expressions.specs.declared.layout.AirLayout.{AirLayout}
use Rattle.air_expressions.specs.declared.base_expression.BaseLeaf.{BaseLeaf}
use Rattle.air_expressions.specs.declared.base_expression.BaseLeaf.TheVariants.{Variable, IsFirstRow, IsLastRow, IsTransition, Constant}
use Rattle.air_expressions.specs.declared.variable.BaseEntry.{BaseEntry}
use Rattle.air_expressions.specs.declared.variable.BaseEntry.TheVariants.{Preprocessed, Main, Public}
use Rattle.air_expressions.specs.Tree.{Tree, leaf, add, sub, mul, neg}

-- the width of a trace that may be absent, 0 if it is
abbrev pub width_of_option : {F : Type 0} → Option (Matrix F) → ℕ
width_of_option None = 0
width_of_option (Some m) = m.width

-- the layout of these widths, without a permutation argument
abbrev pub layout_of_widths : ℕ → ℕ → ℕ → AirLayout
layout_of_widths main preprocessed public_values = record {
  preprocessed_width = preprocessed;
  main_width = main;
  num_public_values = public_values;
  permutation_width = 0;
  num_permutation_challenges = 0;
  num_permutation_values = 0;
}

-- the first of an AIR's widths that a layout doesn't match: main, preprocessed, public values
abbrev pub first_mismatch : ℕ → ℕ → ℕ → AirLayout → Option AirError
first_mismatch main preprocessed public_values layout =
    if not (main == layout.main_width) then Some (LayoutMismatch Main' main layout.main_width)
    else (if not (preprocessed == layout.preprocessed_width) then Some (LayoutMismatch Preprocessed' preprocessed layout.preprocessed_width)
    else (if not (public_values == layout.num_public_values) then Some (LayoutMismatch PublicValues public_values layout.num_public_values)
    else None))

-- the layout of traces and public values, without a permutation argument
abbrev pub layout_of_traces : {F : Type 0} → Matrix F → Option (Matrix F) → List F → AirLayout
layout_of_traces main preprocessed public_values =
    layout_of_widths main.width (width_of_option preprocessed) (length public_values)

-- an entry and an index are within a layout: the offset is 0 or 1, and the index is below the width
abbrev pub EntryFits : AirLayout → BaseEntry → ℕ → Type 0
EntryFits layout (Preprocessed offset) index = (offset ≤ 1) × (index < layout.preprocessed_width)
EntryFits layout (Main offset) index = (offset ≤ 1) × (index < layout.main_width)
EntryFits layout Public index = index < layout.num_public_values

-- a leaf is within a layout
abbrev pub LeafFits : {F : Type 0} → AirLayout → BaseLeaf F → Type 0
LeafFits layout (Variable v) = EntryFits layout v.entry v.index
LeafFits layout IsFirstRow = Unit {0}
LeafFits layout IsLastRow = Unit {0}
LeafFits layout IsTransition = Unit {0}
LeafFits layout (Constant c) = Unit {0}

-- every variable of a tree is within a layout
abbrev pub Fits : {F : Type 0} → AirLayout → Tree F → Type 0
Fits layout (leaf l) = LeafFits layout l
Fits layout (add a b) = Fits layout a × Fits layout b
Fits layout (sub a b) = Fits layout a × Fits layout b
Fits layout (mul a b) = Fits layout a × Fits layout b
Fits layout (neg a) = Fits layout a
