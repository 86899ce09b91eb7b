-- The rows of a range of a trace, with what else their windows show.
use Rattle.std.specs.Prelude.{◌≡◌, ◌<◌, ◌≤◌, ◌+◌, ◌-◌, ◌*◌, ◌==◌, ℕ, List, [], ◌++◌, Option, None, Some, if◌then◌else◌, length, slice_range, take}
use Rattle.std.specs.Option.{ForSome}
use Rattle.air.specs.Traces.{AirTraces, air_traces, height_of}
use Rattle.lookup_model.specs.Batches.Instances.{Instance}
use Rattle.checker_witness.specs.declared.range.RowRange.{RowRange}
use Rattle.matrix.specs.Matrix.{IsShaped, Matrix}

-- at least one row, all within the trace
pub record IsRange (range : RowRange) : Type 0 where
  pub some : range.first < range.end
  pub within : range.end ≤ range.height

-- where row `first` stands among the rows around a range that begins with it: after the first row of
-- the trace, if that is another one
abbrev pub place_of_first : ℕ → ℕ
place_of_first first = if first == 0 then 0 else 1

-- how many rows stand around a range of a trace of h rows
abbrev pub rows_around : ℕ → ℕ → ℕ → ℕ
rows_around h first end = place_of_first first + (end - first) + (if end == h then 0 else 1)

-- Of values in rows of a width, h of them: the first row, if the range does not begin with it; the rows
-- from `first` up to `end`; and the row after them, if there is one. Where the range ends with the
-- trace, the first row comes after the last one here too.
abbrev pub around : {T : Type 0} → ℕ → ℕ → ℕ → ℕ → List T → List T
around width h first end xs =
    (if first == 0 then [] else take width xs)
    ++ (slice_range xs (first * width) (end * width) ++ (if end == h then [] else slice_range xs (end * width) ((end + 1) * width)))

-- the same of a matrix
abbrev pub matrix_around : {T : Type 0} → ℕ → ℕ → ℕ → Matrix T → Matrix T
matrix_around h first end m = record { values = around m.width h first end m.values; width = m.width }

-- and of one that may be missing
abbrev pub option_around : {T : Type 0} → ℕ → ℕ → ℕ → Option (Matrix T) → Option (Matrix T)
option_around h first end None = None
option_around h first end (Some m) = Some (matrix_around h first end m)

-- the traces of these rows alone
abbrev pub traces_around : {F : Type 0} → ℕ → ℕ → AirTraces F → AirTraces F
traces_around first end traces =
    air_traces (matrix_around (height_of traces) first end traces.main) (option_around (height_of traces) first end traces.preprocessed) traces.public_values

-- These are the rows around a range of whole traces, which are as high as the range says.
pub record AreAround {F : Type 0} (range : RowRange) (whole part : AirTraces F) : Type 0 where
  pub high : height_of whole ≡ range.height
  pub part_is : part ≡ traces_around range.first range.end whole
  pub main : IsShaped whole.main
  pub preprocessed : ForSome whole.preprocessed (λ m. length m.values ≡ height_of whole * m.width)

-- These are the rows around a range of a whole matrix, which is as high as the range says.
pub record IsMatrixAround {T : Type 0} (range : RowRange) (whole part : Matrix T) : Type 0 where
  pub full : length whole.values ≡ range.height * whole.width
  pub part_is : part ≡ matrix_around range.height range.first range.end whole

-- an AIR over other traces
abbrev pub over_traces : {F : Type 0} → AirTraces F → Instance F → Instance F
over_traces traces instance = record instance { traces = traces }
