-- The auxiliary trace that is generated from some inputs, chunk by chunk.
use Rattle.std.specs.Prelude.{ℕ, ◌-◌, Bool, List, MatchResult, Result, drop}
use Rattle.field.specs.Extension.{Extension}
use Rattle.field.specs.Ring.{Ring}
use Rattle.air.specs.Traces.{traces_of, window_of}
use Rattle.lookup_generation.specs.declared.columns.GenerationInputs.{GenerationInputs}
use Rattle.lookup_generation.specs.declared.chunk.AuxiliaryRows.{AuxiliaryRows}
use Rattle.lookup_generation.specs.declared.ratio.Ratios.{Ratios}
use Rattle.lookup_generation.specs.internal.Fraction.{ratios_in}
use Rattle.lookup_generation.specs.internal.Progress.{HasCells, HasColumns, HaveNoFault, RefusesFirstFault}
use Rattle.lookup_model.specs.Denominators.{key_denominator}
use Rattle.lookup_model.specs.Sent.{Sent}
use Rattle.lookup_model.specs.Trace.{sent_rows}
use Rattle.lookup_model.specs.declared.error.LookupError.{LookupError}

-- what the lookups send on all rows
abbrev pub all_sent : {F K : Type 0} → Ring F → (F → F → Bool) → GenerationInputs F K → List (List (Sent F))
all_sent R eq inputs = sent_rows R eq (traces_of inputs.traces.now) inputs.lookups.now

module _ {F K : Type 0} (E : Extension F K) (inputs : GenerationInputs F K) where
  -- The rows from `origin` up to `r` are made, with an accumulator that is zero on row `origin`.
  abbrev pub HasCellsFrom : ℕ → ℕ → AuxiliaryRows K → Type 0
  HasCellsFrom origin r made = HasCells E (key_denominator E inputs.challenges.now) (drop origin (all_sent E.base E.base_eq inputs)) (r - origin) made.cells.items made.accumulator

  -- no row from `first` up to `end` has a fault
  abbrev pub HasNoFaultOn : ℕ → ℕ → Type 0
  HasNoFaultOn = HaveNoFault E (key_denominator E inputs.challenges.now) (window_of (traces_of inputs.traces.now)) inputs.lookups.now

  -- out of memory, or the first fault on the rows from `first` up to `end`
  abbrev pub RefusesFaultOn : ℕ → ℕ → LookupError → Type 0
  RefusesFaultOn = RefusesFirstFault E (key_denominator E inputs.challenges.now) (window_of (traces_of inputs.traces.now)) inputs.lookups.now

  -- The ratios of the rows from `first` up to `end`, unless one of them has a fault.
  abbrev pub AnswersRatios : ℕ → ℕ → Result (Ratios K) LookupError → Type 0
  AnswersRatios first end result =
      MatchResult result (λ v. HasColumns E (key_denominator E inputs.challenges.now) (window_of (traces_of inputs.traces.now)) inputs.lookups.now first end (ratios_in v)) (RefusesFaultOn first end)
