-- What the lookups of an AIR send over its traces.
use Rattle.std.specs.Prelude.{ℕ, Bool, List, map}
use Rattle.std.specs.List.{range_with_len}
use Rattle.field.specs.Ring.{Ring}
use Rattle.air_expressions.specs.Window.{Window}
use Rattle.air.specs.Traces.{AirTraces, height_of, window_of}
use Rattle.lookup_model.specs.Sent.{Sent, sent_at}
use Rattle.lookup_model.specs.declared.types.Lookup.{Lookup}

module _ {F : Type 0} (R : Ring F) (eq : F → F → Bool) where
  -- what the lookups of an AIR send at a window, each under its id
  abbrev pub sent_row_under : (Lookup F → ℕ) → Window F → List (Lookup F) → List (Sent F)
  sent_row_under id w lookups = map (λ lookup. sent_at R eq w (id lookup) lookup) lookups

  -- what they send on each row of the traces
  abbrev pub sent_rows_under : (Lookup F → ℕ) → AirTraces F → List (Lookup F) → List (List (Sent F))
  sent_rows_under id traces lookups =
      map (λ r. sent_row_under id (window_of traces r) lookups) (range_with_len 0 (height_of traces))

  -- what they send at a window and on each row, each under its column as its id
  abbrev pub sent_row : Window F → List (Lookup F) → List (Sent F)
  sent_row w lookups = sent_row_under (λ lookup. lookup.column) w lookups

  abbrev pub sent_rows : AirTraces F → List (Lookup F) → List (List (Sent F))
  sent_rows traces lookups = sent_rows_under (λ lookup. lookup.column) traces lookups
