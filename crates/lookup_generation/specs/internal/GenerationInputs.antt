-- What an auxiliary trace is generated from.
use Rattle.std.specs.Prelude.{◌≤◌, ◌*◌, length}
use Rattle.std.specs.List.{AllZip}
use Rattle.air.specs.Traces.{layout_of, traces_of}
use Rattle.lookup_columns.specs.LookupSteps.{AreLookupSteps}
use Rattle.lookup_generation.specs.declared.columns.GenerationInputs.{GenerationInputs}
use Rattle.lookup_model.specs.Records.{LookupsFit}

-- The steps are those of the lookups, which are within the layout of the traces, and there are two
-- challenges for each lookup.
pub record AreGenerationInputs {F K : Type 0} (inputs : GenerationInputs F K) : Type 0 where
  pub steps : AllZip AreLookupSteps inputs.steps.items inputs.lookups.now
  pub fit : LookupsFit (layout_of (traces_of inputs.traces.now)) inputs.lookups.now
  pub challenges : 2 * length inputs.lookups.now ≤ length inputs.challenges.now
