-- Why a witness is not accepted: AIR by AIR the presence of its terminal, the width and the height of
-- its auxiliary trace and its constraints, row by row; then the sum of the terminals.
use Rattle.std.specs.Prelude.{◌≡◌, ◌≢◌, ◌<◌, ◌⊎◌, ℕ, List, Some, map, slice_get}
use Rattle.std.specs.Option.{is_some}
use Rattle.matrix.specs.Matrix.{height}
use Rattle.air_expressions.specs.Faults.{FailsFirstAt}
use Rattle.air.specs.Traces.{height_of}
use Rattle.lookup_model.specs.Challenges.{ChallengeTable, column_challenges}
use Rattle.field.specs.Extension.{Extension}
use Rattle.lookup_model.specs.Terminals.{terminal_sum}
use Rattle.lookup_model.specs.Witness.{HasShape, HoldsOnRow, auxiliary_height, auxiliary_width, has_terminal}
use Rattle.lookup_model.specs.declared.error.LookupError.{LookupError}
use Rattle.lookup_model.specs.declared.error.LookupError.TheVariants.{TerminalPresenceMismatch, PermutationWidthMismatch, PermutationHeightMismatch, ConstraintFailed, TerminalSumNonZero}
use Rattle.lookup_model.specs.Batches.Instances.{Instance}
use Rattle.lookup_model.specs.Batches.Witnesses.{AirResult, AreSatisfied, IsSatisfiedAt}

module _ {F K : Type 0} where
  -- the refusal of the shape of one AIR's result: terminal, width, height
  abbrev pub IsShapeRefusal : ℕ → Instance F → AirResult K → LookupError → Type 0
  IsShapeRefusal air i result e =
      ((has_terminal i.lookups ≢ is_some result.1) × (e ≡ TerminalPresenceMismatch air (has_terminal i.lookups) (is_some result.1)))
      ⊎ ((has_terminal i.lookups ≡ is_some result.1)
      × (((result.0.width ≢ auxiliary_width i.lookups) × (e ≡ PermutationWidthMismatch air (auxiliary_width i.lookups)))
      ⊎ ((result.0.width ≡ auxiliary_width i.lookups)
      × ((height result.0 ≢ auxiliary_height i.lookups (height_of i.traces)) × (e ≡ PermutationHeightMismatch air)))))

  -- the result of an AIR has the shape that its lookups ask for
  abbrev pub HasShapeAt : Instance F → AirResult K → Type 0
  HasShapeAt i result = HasShape i.lookups (height_of i.traces) result.0 result.1

module _ {F K : Type 0} (E : Extension F K) (table : ChallengeTable K) where
  -- every constraint of an AIR is zero on row r
  abbrev pub HoldsAt : Instance F → AirResult K → ℕ → Type 0
  HoldsAt i result r =
      HoldsOnRow E i.traces i.lookups (column_challenges table i.ids) result.0 result.1 r

  -- row r is the first on which a constraint is not zero
  abbrev pub IsFirstFailingRowOfInstance : Instance F → AirResult K → ℕ → Type 0
  IsFirstFailingRowOfInstance i result r = FailsFirstAt (HoldsAt i result) (height_of i.traces) r

  -- the refusal of one AIR's result: for its shape, else at the first row where a constraint fails
  abbrev pub IsAirRefusal : ℕ → Instance F → AirResult K → LookupError → Type 0
  IsAirRefusal air i result e =
      IsShapeRefusal air i result e
      ⊎ (HasShapeAt i result × ((r : ℕ) × IsFirstFailingRowOfInstance i result r × (e ≡ ConstraintFailed air r)))

  -- the refusal of the first AIR that has one
  pub record IsFirstRefusal (instances : List (Instance F)) (witness : List (AirResult K)) (e : LookupError) : Type 0 where
    pub air : ℕ
    pub instance : Instance F
    pub result : AirResult K
    pub is_there : slice_get instances air ≡ Some instance
    pub result_is_there : slice_get witness air ≡ Some result
    pub before : (i : ℕ) (other : Instance F) (r : AirResult K) → i < air → slice_get instances i ≡ Some other → slice_get witness i ≡ Some r → IsSatisfiedAt E table other r
    pub refusal : IsAirRefusal air instance result e

  -- the refusal of a satisfied witness whose terminals do not sum to zero
  pub record IsSumRefusal (instances : List (Instance F)) (witness : List (AirResult K)) (e : LookupError) : Type 0 where
    pub satisfied : AreSatisfied E table instances witness
    pub unbalanced : terminal_sum E.ring (map (λ r. r.1) witness) ≢ E.ring.zero
    pub error_is : e ≡ TerminalSumNonZero

  -- the first refusal of a witness
  abbrev pub IsWitnessRefusal : List (Instance F) → List (AirResult K) → LookupError → Type 0
  IsWitnessRefusal instances witness e = IsFirstRefusal instances witness e ⊎ IsSumRefusal instances witness e
