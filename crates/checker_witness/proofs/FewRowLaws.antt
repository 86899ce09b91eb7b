-- The constraints of an AIR on a row whose fractions are walked.
use Rattle.std.proofs.Common.{◌≡◌, ◌+◌, ◌%◌, ◌*◌, ◌==◌, not, ℕ, List, Some, slice_index_or, subst, subst₂, sym}
use Rattle.std.specs.List.{AllByRecursion}
use Rattle.matrix.specs.Matrix.{Matrix, height, row}
use Rattle.air.specs.Traces.{AirTraces, height_of, window_of}
use Rattle.air_expressions.specs.Window.{ExtWindow, Window}
use Rattle.field.specs.Extension.{Extension}
use Rattle.lookup_model.specs.Constraints.{fraction_left}
use Rattle.lookup_model.specs.Denominators.{tuple_denominator}
use Rattle.lookup_model.specs.Sent.{branches_at, flags_at}
use Rattle.lookup_model.specs.Witness.{HoldsOnRow, witness_window}
use Rattle.lookup_model.specs.declared.types.Lookup.{Lookup}
use Rattle.lookup_model.specs.declared.types.LookupTerminal.{LookupTerminal}
use Rattle.checker_witness.specs.internal.Rows.{AccumulatorHoldsAt, FractionHoldsAt, accumulator_window}
use Rattle.checker_witness.specs.internal.TraceRows.{window_over}
use Rattle.checker_witness.proofs.HoldsLaws.{accumulator_alike, both_from, holds_from, parts_of}

module _ {F K : Type 0} (E : Extension F K) (w : ExtWindow F K) (lookup : Lookup F) (alpha beta fraction : K) (alpha_is : alpha ≡ slice_index_or w.challenges (2 * lookup.column) E.ring.zero) (beta_is : beta ≡ slice_index_or w.challenges (2 * lookup.column + 1) E.ring.zero) (fraction_is : fraction ≡ slice_index_or w.permutation (lookup.column + 1) E.ring.zero) where
  -- the constraint of a fraction is zero with this alpha and beta
  abbrev IsZeroWith : K → K → K → Type 0
  IsZeroWith a b f =
      fraction_left E (tuple_denominator E a b) (flags_at E.base w.base lookup) (branches_at E.base w.base lookup.column lookup) f ≡ E.ring.zero

  -- with those of the lookup's column it is that of the lookup
  pub fraction_on : IsZeroWith alpha beta fraction → FractionHoldsAt E w lookup
  fraction_on zero_left =
      subst (IsZeroWith (slice_index_or w.challenges (2 * lookup.column) E.ring.zero) (slice_index_or w.challenges (2 * lookup.column + 1) E.ring.zero)) fraction_is
      (subst₂ (λ (a b : K). IsZeroWith a b fraction) alpha_is beta_is zero_left)

  pub fraction_of : FractionHoldsAt E w lookup → IsZeroWith alpha beta fraction
  fraction_of holds =
      subst₂ (λ (a b : K). IsZeroWith a b fraction) (sym alpha_is) (sym beta_is)
      (subst (IsZeroWith (slice_index_or w.challenges (2 * lookup.column) E.ring.zero) (slice_index_or w.challenges (2 * lookup.column + 1) E.ring.zero)) (sym fraction_is) holds)

module _ {F K : Type 0} (E : Extension F K) (traces : AirTraces F) (lookups : List (Lookup F)) (challenges : List K) (auxiliary : Matrix K) (terminal : LookupTerminal K) (r : ℕ) (high : height auxiliary ≡ height_of traces) where
  -- the window of the row with the challenges of the columns
  abbrev window : ExtWindow F K
  window = witness_window traces challenges auxiliary (Some terminal) r

  -- it has what the accumulator's constraints read
  parts_are : parts_of E (accumulator_window {F = F} auxiliary terminal.0 r) ≡ parts_of E window
  parts_are k = record {
    is_first = r == 0;
    is_last = r + 1 == high k;
    is_transition = not (r + 1 == high k);
    cells = row auxiliary r;
    next = row auxiliary ((r + 1) % high k);
    terminal = terminal.0;
  }

  pub accumulator_from : HoldsOnRow E traces lookups challenges auxiliary (Some terminal) r → AccumulatorHoldsAt E (accumulator_window auxiliary terminal.0 r) lookups
  accumulator_from holds =
      accumulator_alike E window (accumulator_window auxiliary terminal.0 r) (sym parts_are) lookups (both_from E window lookups holds).0

  module _ (base : Window F) (cells : List K) (base_is : base ≡ window_of traces r) (cells_are : cells ≡ row auxiliary r) where
    -- all constraints hold if the accumulator's and those of the fractions do, and only then
    pub row_from : AccumulatorHoldsAt E (accumulator_window auxiliary terminal.0 r) lookups → AllByRecursion (FractionHoldsAt E (window_over base cells challenges)) lookups → HoldsOnRow E traces lookups challenges auxiliary (Some terminal) r
    row_from accumulator fractions =
        holds_from E window lookups (
          accumulator_alike E (accumulator_window auxiliary terminal.0 r) window parts_are lookups accumulator,
          subst₂ (λ (b : Window F) (cs : List K). AllByRecursion (FractionHoldsAt E (window_over b cs challenges)) lookups) base_is cells_are fractions,
        )

    pub fractions_from : HoldsOnRow E traces lookups challenges auxiliary (Some terminal) r → AllByRecursion (FractionHoldsAt E (window_over base cells challenges)) lookups
    fractions_from holds =
        subst₂ (λ (b : Window F) (cs : List K). AllByRecursion (FractionHoldsAt E (window_over b cs challenges)) lookups) (sym base_is) (sym cells_are) (both_from E window lookups holds).1
