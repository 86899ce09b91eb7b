-- The faults that generation can meet in a batch.
use Rattle.std.specs.Prelude.{◌≡◌, ◌≢◌, ◌⊎◌, ℕ, List, [], None, Some, slice_get}
use Rattle.air_expressions.specs.Faults.{HasFirstFault}
use Rattle.lookup_model.specs.Challenges.{ChallengeTable, table_key_denominator}
use Rattle.field.specs.Extension.{Extension}
use Rattle.lookup_model.specs.Fault.{trace_faults}
use Rattle.lookup_model.specs.declared.error.LookupError.{LookupError}
use Rattle.lookup_model.specs.declared.error.LookupError.TheVariants.{Memory}
use Rattle.lookup_model.specs.Batches.Instances.{Instance}
use Rattle.lookup_model.specs.Batches.Messages.{sent_rows_of}
use Rattle.lookup_model.specs.declared.fault.BatchFault.{BatchFault}

-- out of memory, which is the fault of no AIR
pub record IsOutOfMemory (fault : BatchFault) : Type 0 where
  pub air : fault.air ≡ None
  pub error : fault.error ≡ Memory

-- a refusal of this AIR, or out of memory
abbrev pub IsFaultOf : ℕ → LookupError → BatchFault → Type 0
IsFaultOf air error fault =
    (fault.error ≡ error) × (((error ≡ Memory) × IsOutOfMemory fault) ⊎ ((error ≢ Memory) × (fault.air ≡ Some air)))

-- the first of the faults of the AIR at this index
abbrev pub IsFirstFaultAt : ℕ → List LookupError → BatchFault → Type 0
IsFirstFaultAt index faults fault = (fault.air ≡ Some index) × (slice_get faults 0 ≡ Some fault.error)

module _ {F K : Type 0} (E : Extension F K) (table : ChallengeTable K) where
  -- the faults of an AIR, in the order of its rows and their lookups
  abbrev pub instance_faults : Instance F → List LookupError
  instance_faults i = trace_faults E (table_key_denominator E table) (sent_rows_of E.base E.base_eq i)

  -- no AIR has a fault
  abbrev pub AreFaultless : List (Instance F) → Type 0
  AreFaultless instances = (i : ℕ) (instance : Instance F) → slice_get instances i ≡ Some instance → instance_faults instance ≡ []

  -- the first fault of the first AIR that has one
  abbrev pub IsFirstFault : List (Instance F) → BatchFault → Type 0
  IsFirstFault instances fault = HasFirstFault (λ i. instance_faults i ≡ []) (λ index i. IsFirstFaultAt index (instance_faults i) fault) instances
