-- What the columns of a lookup are made from.
use Rattle.std.specs.Prelude.{◌<◌, ◌+◌, ◌*◌, All, length}
use Rattle.air.specs.Traces.{height_of, layout_of, traces_of}
use Rattle.lookup_columns.specs.LookupSteps.{AreLookupSteps}
use Rattle.lookup_columns.specs.declared.columns.ColumnInputs.{ColumnInputs}
use Rattle.lookup_columns.specs.declared.lookup_steps.LookupSteps.{LookupSteps}
use Rattle.lookup_model.specs.Records.{HasEqualLengths, IsWithin}
use Rattle.lookup_model.specs.declared.types.Lookup.{Lookup}

-- A lookup, its steps, and what its columns are made from: the lookup is within the layout of the
-- traces, its alpha and its beta are among the challenges, and the rows exist.
pub record AreColumnInputs {F K : Type 0} (inputs : ColumnInputs F K) (lookup : Lookup F) (of : LookupSteps F) : Type 0 where
  pub steps : AreLookupSteps of lookup
  pub lengths : HasEqualLengths lookup
  pub within : IsWithin (layout_of (traces_of inputs.traces.now)) lookup
  pub challenges : 2 * lookup.column + 1 < length inputs.challenges.now
  pub rows_exist : All (λ r. r < height_of (traces_of inputs.traces.now)) inputs.rows.now
