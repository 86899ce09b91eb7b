-- Constraints of lookups on the rows of given inputs.
use Rattle.std.specs.Prelude.{◌≡◌, ◌<◌, ◌≤◌, ◌+◌, ◌*◌, ◌%◌, ◌==◌, not, ℕ, List, [], ◌∷◌, length}
use Rattle.std.specs.List.{AllByRecursion}
use Rattle.std.specs.Option.{ForSome, option_copied}
use Rattle.matrix.specs.Matrix.{Matrix, height, row}
use Rattle.air_expressions.specs.Window.{ExtWindow, empty_window}
use Rattle.air.specs.Row.{input_layout, input_window}
use Rattle.air.specs.declared.debug.inputs.RowInputs.{RowInputs}
use Rattle.lookup_model.specs.Constraints.{Constraint, accumulator_constraints, fraction_constraint, lookup_constraints, terminal_at}
use Rattle.field.specs.Extension.{Extension}
use Rattle.lookup_model.specs.Records.{LookupsFit}
use Rattle.lookup_model.specs.declared.types.Lookup.{Lookup}

-- For at least one lookup, inputs with all that their constraints read: traces of one height that the
-- lookups fit, for each lookup two challenges and a cell beside the accumulator, and a terminal.
pub record AreRowInputs {F K : Type 0} (inputs : RowInputs F K) (lookups : List (Lookup F)) : Type 0 where
  pub preprocessed : ForSome (option_copied inputs.preprocessed) (λ m. height m ≡ height inputs.main.now)
  pub permutation : height inputs.permutation.now ≡ height inputs.main.now
  pub fit : LookupsFit (input_layout inputs) lookups
  pub challenges : 2 * length lookups ≤ length inputs.challenges.now
  pub some : 0 < length lookups
  pub cells : length lookups < inputs.permutation.now.width
  pub terminal : 0 < length inputs.permutation_values.now

-- the window of row r of an auxiliary trace, with all that the accumulator's constraints read
abbrev pub accumulator_window : {F K : Type 0} → Matrix K → K → ℕ → ExtWindow F K
accumulator_window aux terminal r = record {
  base = record empty_window {
    is_first = r == 0;
    is_last = r + 1 == height aux;
    is_transition = not (r + 1 == height aux);
  };
  permutation = row aux r;
  permutation_next = row aux ((r + 1) % height aux);
  challenges = [];
  permutation_values = terminal ∷ [];
}

module _ {F K : Type 0} (E : Extension F K) (w : ExtWindow F K) where
  -- a constraint is zero at a window
  abbrev pub IsZeroAt : Constraint F K → Type 0
  IsZeroAt constraint = constraint.meaning w ≡ E.ring.zero

  -- the constraint of a lookup's fraction is zero at a window
  abbrev pub FractionHoldsAt : Lookup F → Type 0
  FractionHoldsAt lookup = IsZeroAt (fraction_constraint E lookup)

  -- the accumulator's constraints are zero at a window
  abbrev pub AccumulatorHoldsAt : List (Lookup F) → Type 0
  AccumulatorHoldsAt lookups = AllByRecursion IsZeroAt (accumulator_constraints E lookups (terminal_at E) (λ t. 0))

  -- every constraint of the lookups is zero at a window
  abbrev pub AllHoldAt : List (Lookup F) → Type 0
  AllHoldAt lookups = AllByRecursion IsZeroAt (lookup_constraints E lookups)

module _ {F K : Type 0} (E : Extension F K) (inputs : RowInputs F K) where
  -- the constraint of a lookup's fraction is zero on a row
  abbrev pub FractionHolds : Lookup F → ℕ → Type 0
  FractionHolds lookup r = FractionHoldsAt E (input_window inputs r) lookup

  module _ (lookups : List (Lookup F)) where
    -- the accumulator's constraints are zero on a row
    abbrev pub AccumulatorHolds : ℕ → Type 0
    AccumulatorHolds r = AccumulatorHoldsAt E (input_window inputs r) lookups

    -- every constraint of the lookups is zero on a row
    abbrev pub HoldsOn : ℕ → Type 0
    HoldsOn r = AllHoldAt E (input_window inputs r) lookups
