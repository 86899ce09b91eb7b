-- How far the variables of lookups reach, and the layouts that they stay within.
use Rattle.std.specs.Prelude.{◌<◌, ◌↔◌, ℕ, All, IfSome, IsTrue, List, Option}
use Rattle.air_expressions.specs.declared.layout.AirLayout.{AirLayout}
use Rattle.lookup_model.specs.Records.{IsWithin}
use Rattle.lookup_model.specs.declared.types.Lookup.{Lookup}
use Rattle.batch.specs.declared.reach.Reach.{Reach}

-- an index, if there is one, is below a width
abbrev pub IsBelow : Option ℕ → ℕ → Type 0
IsBelow index width = IfSome index (λ i. i < width)

-- all variables are within a layout
abbrev pub StaysWithin : Reach → AirLayout → Type 0
StaysWithin reach layout =
    IsTrue reach.has_valid_offsets × IsBelow reach.main layout.main_width × IsBelow reach.preprocessed layout.preprocessed_width × IsBelow reach.public_value layout.num_public_values

-- it is the reach of these lookups: they are within a layout exactly if it stays within
abbrev pub IsReachOf : {F : Type 0} → Reach → List (Lookup F) → Type 0
IsReachOf reach lookups = (layout : AirLayout) → StaysWithin reach layout ↔ All (IsWithin layout) lookups
