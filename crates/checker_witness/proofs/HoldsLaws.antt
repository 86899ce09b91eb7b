-- All constraints of lookups at a window: one for each fraction, and the accumulator's.
use Rattle.std.proofs.Common.{◌≡◌, ◌+◌, ◌%◌, ◌<◌, ◌==◌, ◌++◌, ◌∷◌, [], ℕ, Bool, not, List, length, map, take, get_or, slice_index_or, subst, sym}
use Rattle.std.specs.List.{AllByRecursion}
use Rattle.list_laws.proofs.Items.{take_item}
use Rattle.list_laws.proofs.Each.{all_front, all_back, all_both, all_of_map}
use Rattle.air.specs.Row.{input_window}
use Rattle.air.specs.declared.debug.inputs.RowInputs.{RowInputs}
use Rattle.air_expressions.specs.Window.{ExtWindow, empty_window}
use Rattle.field.specs.laws.Distinct.{all_map}
use Rattle.lookup_model.specs.Constraints.{accumulator_constraints, fraction_constraint, terminal_at}
use Rattle.field.specs.Extension.{Extension}
use Rattle.lookup_model.specs.declared.types.Lookup.{Lookup}
use Rattle.matrix.specs.Matrix.{height, row}
use Rattle.checker_witness.specs.internal.Rows.{AccumulatorHolds, AccumulatorHoldsAt, AllHoldAt, FractionHoldsAt, IsZeroAt, accumulator_window}

module _ {F K : Type 0} (E : Extension F K) (w : ExtWindow F K) (lookups : List (Lookup F)) where
  -- the accumulator's constraints hold, and those of these lookups' fractions
  abbrev pub BothHold : List (Lookup F) → Type 0
  BothHold looked_at = AccumulatorHoldsAt E w lookups × AllByRecursion (FractionHoldsAt E w) looked_at

  -- one more lookup
  pub both_more : (i : ℕ) (lookup : Lookup F) → i < length lookups → lookup ≡ get_or lookups i lookup → BothHold (take i lookups) × FractionHoldsAt E w lookup → BothHold (take (i + 1) lookups)
  both_more i lookup lt is both =
      let Holds = FractionHoldsAt E w in
      (both.0.0, subst (AllByRecursion Holds) (sym (take_item lookups i lookup lt is)) (all_both Holds (take i lookups) (lookup ∷ []) both.0.1 (both.1, tt)))

  pub both_fewer : (i : ℕ) (lookup : Lookup F) → i < length lookups → lookup ≡ get_or lookups i lookup → BothHold (take (i + 1) lookups) → BothHold (take i lookups) × FractionHoldsAt E w lookup
  both_fewer i lookup lt is both =
      let Holds = FractionHoldsAt E w in
      let all : AllByRecursion Holds (take i lookups ++ lookup ∷ []) = subst (AllByRecursion Holds) (take_item lookups i lookup lt is) both.1 in
      ((both.0, all_front Holds (take i lookups) (lookup ∷ []) all), (all_back Holds (take i lookups) (lookup ∷ []) all).0)

  -- those of all lookups
  pub holds_from : BothHold lookups → AllHoldAt E w lookups
  holds_from both =
      all_both (IsZeroAt E w) (map (fraction_constraint E) lookups) (accumulator_constraints E lookups (terminal_at E) (λ t. 0))
      (all_map (fraction_constraint E) (FractionHoldsAt E w) (IsZeroAt E w) (λ l zero_there. zero_there) lookups both.1)
      both.0

  pub both_from : AllHoldAt E w lookups → BothHold lookups
  both_from holds = (
    all_back (IsZeroAt E w) (map (fraction_constraint E) lookups) (accumulator_constraints E lookups (terminal_at E) (λ t. 0)) holds,
    all_of_map (IsZeroAt E w) (fraction_constraint E) lookups (all_front (IsZeroAt E w) (map (fraction_constraint E) lookups) (accumulator_constraints E lookups (terminal_at E) (λ t. 0)) holds),
  )

-- what the accumulator's constraints read of a window
pub record AccumulatorParts (K : Type 0) : Type 0 where
  pub is_first : Bool
  pub is_last : Bool
  pub is_transition : Bool
  pub cells : List K
  pub next : List K
  pub terminal : K

module _ {F K : Type 0} (E : Extension F K) where
  abbrev pub parts_of : ExtWindow F K → AccumulatorParts K
  parts_of w = record {
    is_first = w.base.is_first;
    is_last = w.base.is_last;
    is_transition = w.base.is_transition;
    cells = w.permutation;
    next = w.permutation_next;
    terminal = terminal_at E w;
  }

  -- a window with these parts
  abbrev window_of : AccumulatorParts K → ExtWindow F K
  window_of parts = record {
    base = record empty_window {
      is_first = parts.is_first;
      is_last = parts.is_last;
      is_transition = parts.is_transition;
    };
    permutation = parts.cells;
    permutation_next = parts.next;
    challenges = [];
    permutation_values = parts.terminal ∷ [];
  }

  to_parts : (w : ExtWindow F K) (lookups : List (Lookup F)) → AccumulatorHoldsAt E w lookups → AccumulatorHoldsAt E (window_of (parts_of w)) lookups
  to_parts w [] holds = tt
  to_parts w (l ∷ ls) holds = holds

  from_parts : (w : ExtWindow F K) (lookups : List (Lookup F)) → AccumulatorHoldsAt E (window_of (parts_of w)) lookups → AccumulatorHoldsAt E w lookups
  from_parts w [] holds = tt
  from_parts w (l ∷ ls) holds = holds

  -- they hold at another window with the same parts
  pub accumulator_alike : (w v : ExtWindow F K) → parts_of w ≡ parts_of v → (lookups : List (Lookup F)) → AccumulatorHoldsAt E w lookups → AccumulatorHoldsAt E v lookups
  accumulator_alike w v same lookups holds =
      from_parts v lookups (subst (λ (parts : AccumulatorParts K). AccumulatorHoldsAt E (window_of parts) lookups) same (to_parts w lookups holds))

module _ {F K : Type 0} (E : Extension F K) (inputs : RowInputs F K) (terminal : K) (r : ℕ) (high : height inputs.permutation.now ≡ height inputs.main.now) (terminal_is : terminal ≡ slice_index_or inputs.permutation_values.now 0 E.ring.zero) where
  -- the accumulator's window of a row has the parts of the row's window
  parts_are : parts_of E (accumulator_window {F = F} inputs.permutation.now terminal r) ≡ parts_of E (input_window inputs r)
  parts_are k = record {
    is_first = r == 0;
    is_last = r + 1 == high k;
    is_transition = not (r + 1 == high k);
    cells = row inputs.permutation.now r;
    next = row inputs.permutation.now ((r + 1) % high k);
    terminal = terminal_is k;
  }

  pub accumulator_on : (lookups : List (Lookup F)) → AccumulatorHoldsAt E (accumulator_window inputs.permutation.now terminal r) lookups → AccumulatorHolds E inputs lookups r
  accumulator_on = accumulator_alike E (accumulator_window inputs.permutation.now terminal r) (input_window inputs r) parts_are

  pub accumulator_of : (lookups : List (Lookup F)) → AccumulatorHolds E inputs lookups r → AccumulatorHoldsAt E (accumulator_window inputs.permutation.now terminal r) lookups
  accumulator_of = accumulator_alike E (input_window inputs r) (accumulator_window inputs.permutation.now terminal r) (sym parts_are)
