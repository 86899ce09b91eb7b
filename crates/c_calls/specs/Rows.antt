-- Ranges of the rows of an AIR, and the traces around them.
use Rattle.std.specs.Prelude.{◌≡◌, ◌≢◌, ◌⊎◌}
use Rattle.air.specs.Traces.{AirTraces, height_of}
use Rattle.checker_witness.specs.Around.{IsRange, rows_around}
use Rattle.checker_witness.specs.declared.range.RowRange.{RowRange}
use Rattle.c_calls.specs.declared.codes.Part.TheVariants.{Rows as OfRows}
use Rattle.c_calls.specs.declared.fault.Fault.{Fault}
use Rattle.c_calls.specs.declared.fault.Fault.TheVariants.{Length, Rows as NoRange}
use Rattle.c_calls.specs.declared.rows.Rows.{Rows}

-- the range that numbers say
abbrev pub range_of : Rows → RowRange
range_of rows = record { first = rows.first; end = rows.end; height = rows.height }

module _ {F : Type 0} (rows : Rows) (around : AirTraces F) where
  -- The range has rows, and ends within the height. The traces have as many rows as stand around it.
  pub record HasCallRowsAround : Type 0 where
    pub range : IsRange (range_of rows)
    pub many : height_of around ≡ rows_around rows.height rows.first rows.end

  -- the refusal of the range, or of the height of the traces
  abbrev pub IsRowsRefusal : Fault → Type 0
  IsRowsRefusal fault =
      ((fault ≡ NoRange) × (¬ IsRange (range_of rows)))
      ⊎ (IsRange (range_of rows)
      × (height_of around ≢ rows_around rows.height rows.first rows.end)
      × (fault ≡ Length OfRows (rows_around rows.height rows.first rows.end) (height_of around)))
