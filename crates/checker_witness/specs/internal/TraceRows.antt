-- A row of the traces of an AIR, as the expressions of its lookups read it.
use Rattle.std.specs.Prelude.{◌≡◌, List, [], not, length}
use Rattle.field.specs.Extension.{Extension}
use Rattle.air_expressions.specs.Layout.{layout_of_widths}
use Rattle.air_expressions.specs.Window.{ExtWindow, Window}
use Rattle.air_expressions.specs.declared.layout.AirLayout.{AirLayout}
use Rattle.lookup_model.specs.Constraints.{fraction_left}
use Rattle.lookup_model.specs.Denominators.{tuple_denominator}
use Rattle.lookup_model.specs.Sent.{branches_at, flags_at}
use Rattle.lookup_model.specs.declared.types.Lookup.{Lookup}
use Rattle.checker_witness.specs.declared.trace_row.TraceRow.{TraceRow}

-- a window with the cells of the auxiliary trace on its row and with challenges: all that the fractions'
-- constraints read
abbrev pub window_over : {F K : Type 0} → Window F → List K → List K → ExtWindow F K
window_over base cells challenges = record {
  base = base;
  permutation = cells;
  permutation_next = [];
  challenges = challenges;
  permutation_values = [];
}

module _ {F : Type 0} (row : TraceRow F) where
  -- its window
  abbrev pub trace_window : Window F
  trace_window = record {
    main = row.main.current.now;
    main_next = row.main.next.now;
    preprocessed = row.preprocessed.current.now;
    preprocessed_next = row.preprocessed.next.now;
    public_values = row.public_values.now;
    is_first = row.is_first;
    is_last = row.is_last;
    is_transition = not row.is_last;
  }

  -- its widths
  abbrev pub trace_layout : AirLayout
  trace_layout = layout_of_widths (length row.main.current.now) (length row.preprocessed.current.now) (length row.public_values.now)

  -- with this alpha and beta, the constraint of the lookup's fraction is zero
  abbrev pub FractionFits : {K : Type 0} → Extension F K → K → K → Lookup F → K → Type 0
  FractionFits E alpha beta lookup fraction =
      fraction_left E (tuple_denominator E alpha beta) (flags_at E.base trace_window lookup) (branches_at E.base trace_window lookup.column lookup) fraction ≡ E.ring.zero
