-- A memory check: its lookups, its batch, and what it answers.
use Rattle.std.specs.Prelude.{◌≡◌, ◌≢◌, ◌⊎◌, ℕ, All, List, [], ◌∷◌, length}
use Rattle.std.specs.List.{AllZip, zip}
use Rattle.matrix.specs.Matrix.{Matrix}
use Rattle.air_expressions.specs.Layout.{layout_of_widths}
use Rattle.air_expressions.specs.declared.base_expression.SymbolicExpression.{SymbolicExpression}
use Rattle.lookup_record.specs.Interaction.{Tuple}
use Rattle.lookup_model.specs.Challenges.{ChallengeTable}
use Rattle.field.specs.Extension.{Extension}
use Rattle.lookup_model.specs.Net.{IsBalanced}
use Rattle.lookup_model.specs.Records.{LookupsFit}
use Rattle.lookup_model.specs.declared.error.LookupError.{LookupError}
use Rattle.lookup.specs.Extraction.{IsFirstLocalRefusal}
use Rattle.lookup.specs.Lookups.{lookups_of}
use Rattle.lookup.specs.declared.lookups.Lookups.{Lookups}
use Rattle.lookup_model.specs.Batches.Counts.{IsAccepting}
use Rattle.lookup_model.specs.Batches.Faults.{AreFaultless, IsFirstFault}
use Rattle.lookup_model.specs.Batches.Instances.{Instance}
use Rattle.lookup_model.specs.Batches.Messages.{batch_messages}
use Rattle.lookup_model.specs.Batches.Refusals.{IsWitnessRefusal}
use Rattle.lookup_model.specs.Batches.Witnesses.{IsAccepted, plain_witness}
use Rattle.lookup_model.specs.declared.fault.BatchFault.{BatchFault}
use Rattle.batch.specs.Checks.{IsPlanRefusal}
use Rattle.batch.specs.Plans.{Plan}
use Rattle.batch.specs.Refusals.{of_fault}
use Rattle.batch.specs.Tables.{made_table}
use Rattle.batch.specs.Traces.{FitsAt, IsFirstUnfit, batch_of_mains}
use Rattle.batch.specs.declared.error.BatchError.{BatchError}
use Rattle.batch.specs.declared.error.BatchError.TheVariants.{LengthMismatch, Lookup as OfLookup, Memory}
use Rattle.example_memory.specs.declared.memory.MemoryTraces.{MemoryTraces}

module _ {F : Type 0} where
  -- the lookups of each AIR fit the traces of its width: 5, 4 and 2 columns
  abbrev pub SetsFit : List (Lookups F) → Type 0
  SetsFit sets = AllZip (λ columns set. LookupsFit (layout_of_widths columns 0 0) (lookups_of set)) (5 ∷ 4 ∷ 2 ∷ []) sets

  -- the traces, AIR by AIR
  abbrev pub mains_of : MemoryTraces F → List (Matrix F)
  mains_of traces = traces.accesses ∷ traces.boundary ∷ traces.gaps ∷ []

module _ (F : Type 0) where
  -- The refusal of the lookups of the AIRs: memory runs out, or a local lookup among what an AIR has
  -- pushed is refused.
  abbrev pub IsLookupsRefusal : BatchError → Type 0
  IsLookupsRefusal e =
      (e ≡ Memory)
      ⊎ ((error : LookupError) × (locals : List (List (Tuple (SymbolicExpression F)))) × IsFirstLocalRefusal locals error × (e ≡ OfLookup error))

  -- The refusal of a plan over fields of this characteristic, for traces of these heights: that of the
  -- lookups, or of a check of the plan of lookups that fit.
  abbrev pub IsMemoryPlanRefusal : ℕ → List ℕ → BatchError → Type 0
  IsMemoryPlanRefusal p heights e =
      IsLookupsRefusal e ⊎ ((airs : List (Lookups F)) × SetsFit airs × IsPlanRefusal p airs heights e)

-- a plan and the main traces that are checked over it, at a pair of challenges
module _ {F K : Type 0} (E : Extension F K) (plan : Plan F) (mains : List (Matrix F)) (alpha beta : K) where
  -- its batch
  abbrev batch : List (Instance F)
  batch = batch_of_mains plan.ids plan.airs mains

  -- the table of its challenges
  abbrev table : ChallengeTable K
  table = made_table E.ring alpha beta plan.width plan.num_ids

  -- there are traces for each AIR, of the heights of the plan, and they fit
  pub record AreMemoryTraces : Type 0 where
    pub as_many : length mains ≡ length plan.heights
    pub fit : All FitsAt (zip batch plan.heights)

  -- The traces fit, no AIR has a fault, and the plain witness is accepted. So alpha is accepting at
  -- beta, which counted soundness says of few if the batch does not balance.
  pub record IsAcceptedMemory : Type 0 where
    pub traces_are : AreMemoryTraces
    pub faultless : AreFaultless E table batch
    pub accepted : IsAccepted E table batch (plain_witness E table batch)
    pub accepting : IsAccepting E batch plan.width beta alpha

  -- the traces do not fit: for their number, else the first of them
  abbrev IsUnfit : BatchError → Type 0
  IsUnfit e =
      ((length mains ≢ length plan.heights) × (e ≡ LengthMismatch (length plan.heights) (length mains)))
      ⊎ ((length mains ≡ length plan.heights) × IsFirstUnfit plan.heights batch e)

  -- the first fault of generation
  abbrev IsFault : BatchError → Type 0
  IsFault e = (fault : BatchFault) × IsFirstFault E table batch fault × (e ≡ of_fault fault)

  -- no AIR has a fault, the plain witness is not accepted, and so the messages do not balance
  pub record IsUnbalanced (e : BatchError) : Type 0 where
    pub error : LookupError
    pub error_is : e ≡ OfLookup error
    pub faultless : AreFaultless E table batch
    pub refusal : IsWitnessRefusal E table batch (plain_witness E table batch) error
    pub refused : ¬ IsAccepted E table batch (plain_witness E table batch)
    pub unbalanced : ¬ IsBalanced E.base E.base_eq (batch_messages E.base E.base_eq batch)

  -- the refusal of traces that do not fit, or else that of the batch; or memory runs out
  abbrev pub IsMemoryRefusal : BatchError → Type 0
  IsMemoryRefusal e = (e ≡ Memory) ⊎ (IsUnfit e ⊎ (AreMemoryTraces × (IsFault e ⊎ IsUnbalanced e)))
