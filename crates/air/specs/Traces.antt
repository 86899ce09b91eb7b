-- The traces of an AIR.
use Rattle.std.specs.Prelude.{◌≡◌, ℕ, List, Option}
use Rattle.std.specs.Option.{ForSome, option_copied}
use Rattle.matrix.specs.Matrix.{Matrix, height}
use Rattle.air_expressions.specs.Layout.{layout_of_traces}
use Rattle.air_expressions.specs.Window.{Window, window_at}
use Rattle.air_expressions.specs.declared.layout.AirLayout.{AirLayout}
use Rattle.air.specs.declared.traces.Traces.{Traces}

-- what contracts see of the traces of an AIR: its main trace, its preprocessed trace, if there is
-- one, and its public values
pub record AirTraces (F : Type 0) : Type 0 where
  pub main : Matrix F
  pub preprocessed : Option (Matrix F)
  pub public_values : List F

-- these three as one
abbrev pub air_traces : {F : Type 0} → Matrix F → Option (Matrix F) → List F → AirTraces F
air_traces main preprocessed public_values =
    record { main = main; preprocessed = preprocessed; public_values = public_values }

-- the traces that a value of the program holds
abbrev pub traces_of : {F : Type 0} → Traces F → AirTraces F
traces_of traces = air_traces traces.main.now (option_copied traces.preprocessed) traces.public_values.now

module _ {F : Type 0} (traces : AirTraces F) where
  -- their layout, without a permutation argument
  abbrev pub layout_of : AirLayout
  layout_of = layout_of_traces traces.main traces.preprocessed traces.public_values

  -- their height, which is that of the main trace
  abbrev pub height_of : ℕ
  height_of = height traces.main

  -- the window of a row; the next row of the last one is the first one
  abbrev pub window_of : ℕ → Window F
  window_of r = window_at traces.main traces.preprocessed traces.public_values height_of r

  -- a preprocessed trace is as high as the main trace
  abbrev pub HaveOneHeight : Type 0
  HaveOneHeight = ForSome traces.preprocessed (λ m. height m ≡ height traces.main)
