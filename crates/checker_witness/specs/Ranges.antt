-- The check of one AIR's result: its shape, and its constraints on a range of rows.
use Rattle.std.specs.Prelude.{◌≡◌, ◌⊎◌, ◌<◌, ◌≤◌, ℕ, Result, MatchResult, length}
use Rattle.air.specs.Traces.{height_of}
use Rattle.field.specs.Extension.{Extension}
use Rattle.lookup_model.specs.Challenges.{ChallengeTable}
use Rattle.lookup_model.specs.declared.error.LookupError.{LookupError}
use Rattle.lookup_model.specs.declared.error.LookupError.TheVariants.{Memory}
use Rattle.lookup_model.specs.Batches.Instances.{Instance}
use Rattle.lookup_model.specs.Batches.Refusals.{HasShapeAt, HoldsAt, IsAirRefusal, IsFirstFailingRowOfInstance, IsShapeRefusal}
use Rattle.lookup_model.specs.Batches.Witnesses.{AirResult, IsSatisfiedAt}
use Rattle.lookup_model.specs.Witness.{AddUp, TerminalIsSum}

-- On row `first` and all further ones before row r a property holds. It fails on row r, unless that is
-- the end.
pub record HoldsUntil (Holds : ℕ → Type 0) (first end r : ℕ) : Type 0 where
  pub from : first ≤ r
  pub up_to : r ≤ end
  pub holds : (s : ℕ) → first ≤ s → s < r → Holds s
  pub fails : r < end → ¬ Holds r

-- a result of the shape that the lookups ask for, or the refusal of its shape
abbrev pub ChecksShape : {F K : Type 0} → ℕ → Instance F → AirResult K → Result (Unit {0}) LookupError → Type 0
ChecksShape air i result answer = MatchResult answer (λ _. HasShapeAt i result) (IsShapeRefusal air i result)

-- where every constraint is zero on all rows of a range, the rows add up
abbrev pub RangeAddsUp : {F K : Type 0} → Extension F K → Instance F → AirResult K → ℕ → ℕ → ℕ → Type 0
RangeAddsUp E i result first end r =
    0 < length i.lookups → first < end → r ≡ end → AddUp E i.lookups (height_of i.traces) result.0 result.1 first end

module _ {F K : Type 0} (E : Extension F K) (table : ChallengeTable K) where
  -- every constraint of an AIR is zero on the rows of a range up to this one, and one is not on this row,
  -- unless it is the end
  abbrev pub RowsHoldUntil : Instance F → AirResult K → ℕ → ℕ → ℕ → Type 0
  RowsHoldUntil i result = HoldsUntil (HoldsAt E table i result)

  -- a satisfied result, whose terminal is the sum of its fractions; or its refusal; or memory runs out
  abbrev pub ChecksResult : ℕ → Instance F → AirResult K → Result (Unit {0}) LookupError → Type 0
  ChecksResult air i result answer = MatchResult answer
      (λ _. IsSatisfiedAt E table i result × TerminalIsSum E i.traces i.lookups result.0 result.1)
      (λ e. (e ≡ Memory) ⊎ IsAirRefusal E table air i result e)

  -- Ranges that follow one another: where all constraints hold on the first, the answer for the second is
  -- that for both, and a row of the first where one fails is the first of both. Where they hold on all
  -- rows of a range, the rows add up. Where they hold on all rows of a result of the right shape, it is satisfied,
  -- and its terminal is the sum of its fractions, if there is a row where there are lookups.
  pub record ChecksJoin (i : Instance F) (result : AirResult K) : Type 0 where
    pub holds : (first middle end r : ℕ) → first ≤ middle → middle ≤ end → RowsHoldUntil i result first middle middle → RowsHoldUntil i result middle end r → RowsHoldUntil i result first end r
    pub fails : (first middle end r : ℕ) → middle ≤ end → r < middle → RowsHoldUntil i result first middle r → RowsHoldUntil i result first end r
    pub all_rows : HasShapeAt i result → (0 < length i.lookups → 0 < height_of i.traces) → RowsHoldUntil i result 0 (height_of i.traces) (height_of i.traces) → IsSatisfiedAt E table i result × TerminalIsSum E i.traces i.lookups result.0 result.1
    pub sums : HasShapeAt i result → (first end r : ℕ) → end ≤ height_of i.traces → RowsHoldUntil i result first end r → RangeAddsUp E i result first end r
    pub refused : (r : ℕ) → r < height_of i.traces → RowsHoldUntil i result 0 (height_of i.traces) r → IsFirstFailingRowOfInstance E table i result r
