-- What a builder that records constraints holds.
use Rattle.std.specs.Prelude.{◌≡◌, ℕ, ◌+◌, List, [], ◌∷◌, ◌++◌, length}
use Rattle.air_expressions.specs.Window.{ExtWindow, Window}
use Rattle.air_expressions.specs.declared.layout.AirLayout.{AirLayout}
use Rattle.air.specs.declared.recording.builder.SymbolicAirBuilder.{SymbolicAirBuilder}
use Rattle.air_expressions.specs.declared.base_expression.SymbolicExpression.{SymbolicExpression}
use Rattle.air_expressions.specs.declared.ext_expression.SymbolicExpressionExt.{SymbolicExpressionExt}

-- The layout, the assertions over the field and over the extension, each in order, and the
-- positions of both in the one order of all assertions.
pub record Recorded (F EF : Type 0) : Type 0 where
  pub layout : AirLayout
  pub base : List (SymbolicExpression F)
  pub extension : List (SymbolicExpressionExt F EF)
  pub base_indices : List ℕ
  pub ext_indices : List ℕ

-- what a builder has recorded
abbrev pub recorded : {F EF : Type 0} → SymbolicAirBuilder F EF → Recorded F EF
recorded b = record {
  layout = b.variables;
  base = b.base_constraints.items;
  extension = b.extension_constraints.items;
  base_indices = b.constraint_layout.base_indices.items;
  ext_indices = b.constraint_layout.ext_indices.items;
}

-- nothing is recorded yet
abbrev pub nothing_recorded : {F EF : Type 0} → AirLayout → Recorded F EF
nothing_recorded layout =
    record { layout = layout; base = []; extension = []; base_indices = []; ext_indices = [] }

-- how many assertions are recorded
abbrev pub num_recorded : {F EF : Type 0} → Recorded F EF → ℕ
num_recorded b = length b.base + length b.extension

-- one more assertion over the field, at the next position in the order of all assertions
abbrev pub with_base : {F EF : Type 0} → Recorded F EF → SymbolicExpression F → Recorded F EF
with_base b x = record {
  layout = b.layout;
  base = b.base ++ x ∷ [];
  extension = b.extension;
  base_indices = b.base_indices ++ num_recorded b ∷ [];
  ext_indices = b.ext_indices;
}

-- one more assertion over the extension, at the next position in the order of all assertions
abbrev pub with_extension : {F EF : Type 0} → Recorded F EF → SymbolicExpressionExt F EF → Recorded F EF
with_extension b x = record {
  layout = b.layout;
  base = b.base;
  extension = b.extension ++ x ∷ [];
  base_indices = b.base_indices;
  ext_indices = b.ext_indices ++ num_recorded b ∷ [];
}

-- a window has the widths of a layout
pub record HasWidths {F : Type 0} (layout : AirLayout) (w : Window F) : Type 0 where
  pub main : length w.main ≡ layout.main_width
  pub main_next : length w.main_next ≡ layout.main_width
  pub preprocessed : length w.preprocessed ≡ layout.preprocessed_width
  pub preprocessed_next : length w.preprocessed_next ≡ layout.preprocessed_width
  pub public_values : length w.public_values ≡ layout.num_public_values

-- a window of a permutation argument has the widths of a layout
pub record HasExtWidths {F EF : Type 0} (layout : AirLayout) (w : ExtWindow F EF) : Type 0 where
  pub base : HasWidths layout w.base
  pub permutation : length w.permutation ≡ layout.permutation_width
  pub permutation_next : length w.permutation_next ≡ layout.permutation_width
  pub challenges : length w.challenges ≡ layout.num_permutation_challenges
  pub permutation_values : length w.permutation_values ≡ layout.num_permutation_values
