-- What verifying one AIR under challenges for each lookup answers from tables of numbers.
use Rattle.std.specs.Prelude.{◌<◌, ◌≡◌, ◌≤◌, ◌⊎◌, ◌*◌, ℕ, List, length}
use Rattle.field.specs.Residue.{Residue}
use Rattle.field.specs.Extension.{Extension}
use Rattle.field_monty.specs.Quartic.{Quartic}
use Rattle.air.specs.Traces.{AirTraces}
use Rattle.batch.specs.declared.error.BatchError.TheVariants.{Lookup as OfLookup}
use Rattle.checker_witness.specs.Columns.{IsColumnsRefusal}
use Rattle.lookup_model.specs.Batches.Witnesses.{AirResult}
use Rattle.lookup_model.specs.Witness.{IsSatisfied, TerminalIsSum}
use Rattle.lookup_model.specs.declared.error.LookupError.{LookupError}
use Rattle.lookup_model.specs.declared.types.Lookup.{Lookup}
use Rattle.c_tables.specs.Tables.{TablesEncode}
use Rattle.c_tables.specs.TraceNumbers.{AreNumbersOfTraces}
use Rattle.c_tables.specs.declared.tables.Tables.{Tables}
use Rattle.c_tables.specs.declared.traces.Traces.{Traces}
use Rattle.c_calls.specs.CallAnswers.{CallAnswers}
use Rattle.c_calls.specs.Generate.{GenerateFits, HasFewChallenges, IsGenerateUnfit}
use Rattle.c_calls.specs.Inputs.{AreInputElements, IsInputListRefusal, IsInputTableRefusal, IsInputTracesRefusal, decoded_traces}
use Rattle.c_calls.specs.VerifyRows.{witness_result}
use Rattle.c_calls.specs.Witnesses.{IsAirWitness, IsWitnessAuxiliaryRefusal, IsWitnessTerminalRefusal}
use Rattle.c_calls.specs.declared.codes.Part.TheVariants.{Challenges}
use Rattle.c_calls.specs.declared.fault.Fault.{Fault}
use Rattle.c_calls.specs.declared.fault.Fault.TheVariants.{Batch, Memory}
use Rattle.c_calls.specs.declared.refusal.Refusal.{Refusal}
use Rattle.c_calls.specs.declared.witness.AirWitness.{AirWitness}

module _ {F K : Type 0} (E : Extension F K) (traces : AirTraces F) (lookups : List (Lookup F)) (challenges : List K) (result : AirResult K) where
  -- the lookups fit the traces, there are two challenges for each of them, the result is satisfied, and its
  -- terminal is the sum of its fractions
  pub record IsVerifiedOver : Type 0 where
    pub fitting : GenerateFits traces lookups
    pub enough : 2 * length lookups ≤ length challenges
    pub satisfied : IsSatisfied E traces lookups challenges result.0 result.1
    pub summed : TerminalIsSum E traces lookups result.0 result.1

  -- the result is refused for its shape, or for the first row on which a constraint is not zero
  pub record IsUnsatisfied (error : LookupError) : Type 0 where
    pub refusal : IsColumnsRefusal E traces lookups challenges result 0 error

  -- that refusal, as the fault of a call; or memory runs out
  abbrev pub IsFirstUnsatisfied : Fault → Type 0
  IsFirstUnsatisfied fault = (fault ≡ Memory) ⊎ ((error : LookupError) × (fault ≡ Batch (OfLookup error)) × IsUnsatisfied error)

  -- the same, of a result over lookups that fit the traces, with challenges enough
  pub record IsUnverified (fault : Fault) : Type 0 where
    pub fitting : GenerateFits traces lookups
    pub enough : 2 * length lookups ≤ length challenges
    pub refusal : IsFirstUnsatisfied fault

  -- the refusal of lookups that do not fit, of too few challenges, or of the result
  abbrev pub IsVerifyOverRefusal : Fault → Type 0
  IsVerifyOverRefusal fault = IsGenerateUnfit traces lookups fault ⊎ (HasFewChallenges lookups challenges fault ⊎ IsUnverified fault)

module _ {p : ℕ} (positive : 0 < p) (E : Extension (Residue p) (Quartic (Residue p))) (tables : Tables) (traces : Traces) (challenges : List (List ℕ)) (numbers : AirWitness) where
  -- something holds of the lookups and the challenges that the tables and the numbers encode; the traces and the
  -- witness are of numbers below the modulus
  pub record OfVerifyAir (Holds : List (Lookup (Residue p)) → List (Quartic (Residue p)) → Type 0) : Type 0 where
    pub lookups : List (Lookup (Residue p))
    pub encoded : TablesEncode tables lookups
    pub traces_below : AreNumbersOfTraces p traces
    pub elements : List (Quartic (Residue p))
    pub elements_are : AreInputElements positive challenges elements
    pub witness_is : IsAirWitness p numbers
    pub holds : Holds lookups elements

  -- the lookups fit, and the witness satisfies their constraints on every row
  abbrev pub CallVerifiesAir : Type 0
  CallVerifiesAir = OfVerifyAir (λ lookups elements. IsVerifiedOver E (decoded_traces positive traces) lookups elements (witness_result positive numbers))

  -- The refusal of the tables, of the traces, of the challenges, of the witness's numbers, of lookups that do
  -- not fit, of too few challenges, or of the witness; or memory runs out.
  abbrev pub IsVerifyAirRefusal : Fault → Type 0
  IsVerifyAirRefusal fault =
      IsInputTableRefusal p 0 tables fault
      ⊎ (IsInputTracesRefusal p 0 traces fault
      ⊎ (IsInputListRefusal p Challenges 0 challenges fault
      ⊎ (IsWitnessAuxiliaryRefusal p 0 numbers fault
      ⊎ (IsWitnessTerminalRefusal p 0 numbers.terminal fault
      ⊎ OfVerifyAir (λ lookups elements. IsVerifyOverRefusal E (decoded_traces positive traces) lookups elements (witness_result positive numbers) fault)))))

  -- the code and the refusal of a call that verifies one AIR
  abbrev pub AnswersVerifyAir : ℕ → Refusal → Type 0
  AnswersVerifyAir code refusal = CallAnswers code refusal CallVerifiesAir IsVerifyAirRefusal
