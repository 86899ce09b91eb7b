-- What verifying a range of rows answers from tables of numbers.
use Rattle.std.specs.Prelude.{◌≡◌, ◌⊎◌, ◌<◌, ℕ, List, length}
use Rattle.field.specs.Residue.{Residue}
use Rattle.air.specs.Traces.{AirTraces, height_of}
use Rattle.batch.specs.declared.error.BatchError.TheVariants.{Lookup as OfLookup}
use Rattle.checker_witness.specs.Ranges.{RowsHoldUntil}
use Rattle.field.specs.Extension.{Extension}
use Rattle.field_monty.specs.Quartic.{Quartic}
use Rattle.matrix.specs.Matrix.{Matrix}
use Rattle.lookup_model.specs.Batches.Instances.{Instance}
use Rattle.lookup_model.specs.Batches.Refusals.{HasShapeAt, IsShapeRefusal}
use Rattle.lookup_model.specs.Batches.Witnesses.{AirResult}
use Rattle.lookup_model.specs.Witness.{AddUp}
use Rattle.lookup_model.specs.Challenges.{ChallengeTable}
use Rattle.lookup_model.specs.declared.error.LookupError.{LookupError}
use Rattle.lookup_model.specs.declared.error.LookupError.TheVariants.{ConstraintFailed}
use Rattle.lookup_model.specs.declared.types.Lookup.{Lookup}
use Rattle.checker_witness.specs.Around.{AreAround, IsMatrixAround}
use Rattle.c_tables.specs.declared.tables.Tables.{Tables}
use Rattle.c_tables.specs.declared.traces.Traces.{Traces}
use Rattle.c_calls.specs.CallAnswers.{CallAnswers}
use Rattle.c_calls.specs.Inputs.{decoded_traces}
use Rattle.c_calls.specs.PlannedAirs.{IsPlannedAirRefusal, IsPlannedAir, planned_table}
use Rattle.c_calls.specs.Rows.{HasCallRowsAround, IsRowsRefusal, range_of}
use Rattle.c_calls.specs.Witnesses.{IsAirWitness, IsWitnessAuxiliaryRefusal, IsWitnessTerminalRefusal, witness_auxiliary, witness_terminal}
use Rattle.c_calls.specs.declared.fault.Fault.{Fault}
use Rattle.c_calls.specs.declared.fault.Fault.TheVariants.{Batch, Memory}
use Rattle.c_calls.specs.declared.plan.PlanSizes.{PlanSizes}
use Rattle.c_calls.specs.declared.refusal.Refusal.{Refusal}
use Rattle.c_calls.specs.declared.rows.Rows.{Rows}
use Rattle.c_calls.specs.declared.witness.AirWitness.{AirWitness}

-- what a witness has for an AIR
abbrev pub witness_result : {p : ℕ} → 0 < p → AirWitness → AirResult (Quartic (Residue p))
witness_result positive numbers = (witness_auxiliary positive numbers, witness_terminal positive numbers.terminal)

-- an AIR with these ids
abbrev pub instance_with_ids : {F : Type 0} → List (Lookup F) → List ℕ → AirTraces F → Instance F
instance_with_ids lookups ids traces = record { lookups = lookups; traces = traces; ids = ids }

module _ {p : ℕ} (positive : 0 < p) (E : Extension (Residue p) (Quartic (Residue p))) (around : Traces) (rows : Rows) (ids : List ℕ) (numbers : AirWitness) where
  -- In every whole trace with a whole auxiliary trace that have these rows around the range, all constraints are
  -- zero on the rows of the range before this one; and on this one, if it is in the range, one is not.
  abbrev pub VerifiedRowsHoldUntil : List (Lookup (Residue p)) → ChallengeTable (Quartic (Residue p)) → ℕ → Type 0
  VerifiedRowsHoldUntil lookups table row =
      (whole : AirTraces (Residue p)) (auxiliary : Matrix (Quartic (Residue p)))
      → AreAround (range_of rows) whole (decoded_traces positive around) → IsMatrixAround (range_of rows) auxiliary (witness_auxiliary positive numbers)
      → RowsHoldUntil E table (instance_with_ids lookups ids whole) (auxiliary, witness_terminal positive numbers.terminal) rows.first rows.end row

  -- In every such whole trace the rows of the range add up: the fractions on them lead from the accumulator before
  -- them to that after them, or to the terminal.
  abbrev pub VerifiedRowsAddUp : List (Lookup (Residue p)) → Type 0
  VerifiedRowsAddUp lookups =
      (whole : AirTraces (Residue p)) (auxiliary : Matrix (Quartic (Residue p)))
      → AreAround (range_of rows) whole (decoded_traces positive around) → IsMatrixAround (range_of rows) auxiliary (witness_auxiliary positive numbers)
      → 0 < length lookups → AddUp E lookups (height_of whole) auxiliary (witness_terminal positive numbers.terminal) rows.first rows.end

module _ {p : ℕ} (positive : 0 < p) (E : Extension (Residue p) (Quartic (Residue p))) (tables : Tables) (around : Traces) (rows : Rows) (ids : List ℕ) (sizes : PlanSizes) (alpha beta : List ℕ) (numbers : AirWitness) where
  -- something holds of the lookups and the table of challenges that the tables and numbers encode, where the
  -- traces have the rows around the range, and the witness is one
  pub record OfVerifyRows (Holds : List (Lookup (Residue p)) → ChallengeTable (Quartic (Residue p)) → Type 0) : Type 0 where
    pub lookups : List (Lookup (Residue p))
    pub a : Quartic (Residue p)
    pub b : Quartic (Residue p)
    pub air : IsPlannedAir positive tables around ids sizes alpha beta lookups a b
    pub has_rows : HasCallRowsAround rows (decoded_traces positive around)
    pub witness_is : IsAirWitness p numbers
    pub holds : Holds lookups (planned_table E.ring sizes a b)

  -- the witness has the right shape over these rows
  abbrev pub HasVerifyRowsShape : List (Lookup (Residue p)) → Type 0
  HasVerifyRowsShape lookups = HasShapeAt (instance_with_ids lookups ids (decoded_traces positive around)) (witness_result positive numbers)

  -- the witness has the right shape, all constraints are zero on the rows of the range, and these add up
  abbrev pub CallVerifiesRows : Type 0
  CallVerifiesRows =
      OfVerifyRows (λ lookups table. HasVerifyRowsShape lookups × VerifiedRowsHoldUntil positive E around rows ids numbers lookups table rows.end × VerifiedRowsAddUp positive E around rows ids numbers lookups)

  -- the first row of the range on which a constraint is not zero
  abbrev pub IsFailingVerifyRow : ℕ → Type 0
  IsFailingVerifyRow row = OfVerifyRows (λ lookups table. HasVerifyRowsShape lookups × VerifiedRowsHoldUntil positive E around rows ids numbers lookups table row)

  -- The refusal of the AIR, of the range or the height of the traces, of the witness's numbers, of its shape, or
  -- of a row; or memory runs out.
  abbrev pub IsVerifyRowsRefusal : Fault → Type 0
  IsVerifyRowsRefusal fault =
      IsPlannedAirRefusal positive tables around ids sizes alpha beta fault
      ⊎ (IsRowsRefusal rows (decoded_traces positive around) fault
      ⊎ (IsWitnessAuxiliaryRefusal p 0 numbers fault
      ⊎ (IsWitnessTerminalRefusal p 0 numbers.terminal fault
      ⊎ ((fault ≡ Memory)
      ⊎ (((error : LookupError) × (fault ≡ Batch (OfLookup error)) × OfVerifyRows (λ lookups _. IsShapeRefusal 0 (instance_with_ids lookups ids (decoded_traces positive around)) (witness_result positive numbers) error))
      ⊎ ((row : ℕ) × (fault ≡ Batch (OfLookup (ConstraintFailed 0 row))) × (row < rows.end) × IsFailingVerifyRow row))))))

  -- the code and the refusal of a call that verifies a range of rows
  abbrev pub AnswersVerifyRows : ℕ → Refusal → Type 0
  AnswersVerifyRows code refusal = CallAnswers code refusal CallVerifiesRows IsVerifyRowsRefusal
