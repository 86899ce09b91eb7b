-- The check of one AIR's result under given challenges.
use Rattle.std.specs.Prelude.{◌≡◌, ◌⊎◌, ◌≤◌, ◌*◌, ℕ, List, [], Result, MatchResult, length}
use Rattle.air.specs.Traces.{AirTraces, HaveOneHeight, height_of, layout_of}
use Rattle.checker_witness.specs.Ranges.{HoldsUntil}
use Rattle.air_expressions.specs.Faults.{FailsFirstAt}
use Rattle.field.specs.Extension.{Extension}
use Rattle.lookup_model.specs.Batches.Instances.{Instance}
use Rattle.lookup_model.specs.Batches.Refusals.{HasShapeAt, IsShapeRefusal}
use Rattle.lookup_model.specs.Batches.Witnesses.{AirResult}
use Rattle.lookup_model.specs.Records.{LookupsFit}
use Rattle.lookup_model.specs.Witness.{HoldsOnRow, IsSatisfied, TerminalIsSum}
use Rattle.lookup_model.specs.declared.error.LookupError.{LookupError}
use Rattle.lookup_model.specs.declared.error.LookupError.TheVariants.{ConstraintFailed, Memory}
use Rattle.lookup_model.specs.declared.types.Lookup.{Lookup}

-- an AIR without ids
abbrev pub without_ids : {F : Type 0} → AirTraces F → List (Lookup F) → Instance F
without_ids traces lookups = record { lookups = lookups; traces = traces; ids = [] }

-- The lookups of an AIR fit its traces, which have one height, and there are an alpha and a beta for each
-- lookup.
pub record HasColumns {F K : Type 0} (i : Instance F) (challenges : List K) : Type 0 where
  pub fit : LookupsFit (layout_of i.traces) i.lookups
  pub heights : HaveOneHeight i.traces
  pub enough : 2 * length i.lookups ≤ length challenges

module _ {F K : Type 0} (E : Extension F K) (traces : AirTraces F) (lookups : List (Lookup F)) (challenges : List K) (result : AirResult K) where
  -- every constraint is zero on the rows of a range up to this one, and one is not on this row, unless it is
  -- the end
  abbrev pub ColumnsHoldUntil : ℕ → ℕ → ℕ → Type 0
  ColumnsHoldUntil = HoldsUntil (HoldsOnRow E traces lookups challenges result.0 result.1)

  -- row r is the first on which a constraint is not zero
  abbrev pub IsFirstFailingRowOfColumns : ℕ → Type 0
  IsFirstFailingRowOfColumns r = FailsFirstAt (HoldsOnRow E traces lookups challenges result.0 result.1) (height_of traces) r

  -- the refusal of the shape, else at the first row where a constraint fails; of AIR `air`
  abbrev pub IsColumnsRefusal : ℕ → LookupError → Type 0
  IsColumnsRefusal air e =
      IsShapeRefusal air (without_ids traces lookups) result e
      ⊎ (HasShapeAt (without_ids traces lookups) result × ((r : ℕ) × IsFirstFailingRowOfColumns r × (e ≡ ConstraintFailed air r)))

  -- a satisfied result, whose terminal is the sum of its fractions; or its refusal; or memory runs out
  abbrev pub ChecksColumns : ℕ → Result (Unit {0}) LookupError → Type 0
  ChecksColumns air answer = MatchResult answer
      (λ _. IsSatisfied E traces lookups challenges result.0 result.1 × TerminalIsSum E traces lookups result.0 result.1)
      (λ e. (e ≡ Memory) ⊎ IsColumnsRefusal air e)
