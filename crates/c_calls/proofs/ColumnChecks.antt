-- The check of one AIR over elements, as a check over tables of numbers.
use Rattle.std.proofs.Common.{◌<◌, ◌≡◌, ◌⊎◌, ℕ, List, MatchResult, Result, inl, inr, subst}
use Rattle.std.proofs.lemmas.Result.{MatchResult-weaker}
use Rattle.field.specs.Residue.{Residue}
use Rattle.field.specs.Extension.{Extension}
use Rattle.field_monty.specs.Quartic.{Quartic}
use Rattle.air.specs.Traces.{AirTraces}
use Rattle.checker_witness.specs.Columns.{IsColumnsRefusal}
use Rattle.lookup_model.specs.Batches.Witnesses.{AirResult}
use Rattle.lookup_model.specs.Witness.{IsSatisfied, TerminalIsSum}
use Rattle.lookup_model.specs.declared.error.LookupError.{LookupError}
use Rattle.lookup_model.specs.declared.error.LookupError.TheVariants as lookup_error
use Rattle.lookup_model.specs.declared.types.Lookup.{Lookup}
use Rattle.c_tables.specs.Tables.{TablesEncode}
use Rattle.c_tables.specs.TraceNumbers.{AreTracesOfNumbers}
use Rattle.c_tables.specs.declared.tables.Tables.{Tables}
use Rattle.c_tables.specs.declared.traces.ReadTraces.{ReadTraces}
use Rattle.c_tables.specs.declared.traces.Traces.{Traces}
use Rattle.c_calls.specs.Inputs.{AreInputElements, decoded_traces, view_of_read}
use Rattle.c_calls.specs.VerifyAir.{CallVerifiesAir, IsFirstUnsatisfied, IsVerifiedOver, IsVerifyAirRefusal, IsVerifyOverRefusal, OfVerifyAir}
use Rattle.c_calls.specs.VerifyRows.{witness_result}
use Rattle.c_calls.specs.Witnesses.{IsAirWitness}
use Rattle.c_calls.specs.declared.fault.Fault.{Fault}
use Rattle.c_calls.specs.declared.witness.AirWitness.{AirWitness}
use Rattle.c_calls.specs.internal.Faults.{IsCheckFault}
use Rattle.c_calls.proofs.BatchLaws.{decoded}

-- what is satisfied over the traces by another name
pub satisfied_over : {F K : Type 0} (E : Extension F K) (seen traces : AirTraces F) (lookups : List (Lookup F)) (challenges : List K) (result : AirResult K) → seen ≡ traces
    → IsSatisfied E seen lookups challenges result.0 result.1 × TerminalIsSum E seen lookups result.0 result.1 → IsSatisfied E traces lookups challenges result.0 result.1 × TerminalIsSum E traces lookups result.0 result.1
satisfied_over E seen traces lookups challenges result is satisfied = subst (λ t. IsSatisfied E t lookups challenges result.0 result.1 × TerminalIsSum E t lookups result.0 result.1) is satisfied

-- and what the check refuses
pub unsatisfied_over : {F K : Type 0} (E : Extension F K) (seen traces : AirTraces F) (lookups : List (Lookup F)) (challenges : List K) (result : AirResult K) → seen ≡ traces → (error : LookupError) (fault : Fault) → IsCheckFault error fault → (error ≡ lookup_error.Memory) ⊎ IsColumnsRefusal E seen lookups challenges result 0 error
    → IsFirstUnsatisfied E traces lookups challenges result fault
unsatisfied_over E seen traces lookups challenges result is error fault (inl memory) _ = inl memory.1
unsatisfied_over E seen traces lookups challenges result is error fault (inr other) (inl memory) = absurd (other.0 memory)
unsatisfied_over E seen traces lookups challenges result is error fault (inr other) (inr refusal) = inr (
  error,
  other.1,
  record { refusal = subst (λ t. IsColumnsRefusal E t lookups challenges result 0 error) is refusal },
)

module _ {p : ℕ} (positive : 0 < p) (E : Extension (Residue p) (Quartic (Residue p))) (tables : Tables) (traces : Traces) (answer : Result (Unit {0}) Fault) (lookups : List (Lookup (Residue p))) (read : ReadTraces (Residue p)) (elements : List (Quartic (Residue p))) (result : AirResult (Quartic (Residue p))) (say : TablesEncode tables lookups)
    (are : AreTracesOfNumbers positive traces read) (numbers : List (List ℕ)) (elements_are : AreInputElements positive numbers elements) (witness : AirWitness) (witness_is : IsAirWitness p witness) (result_is : result ≡ witness_result positive witness) where
  -- what a check over elements answers
  abbrev ChecksOver : AirTraces (Residue p) → AirResult (Quartic (Residue p)) → Type 0
  ChecksOver t r = MatchResult answer (λ _. IsVerifiedOver E t lookups elements r) (IsVerifyOverRefusal E t lookups elements r)

  -- what holds of the lookups and the elements, of those that are encoded
  of_encoded : (Holds : List (Lookup (Residue p)) → List (Quartic (Residue p)) → Type 0) → Holds lookups elements → OfVerifyAir positive E tables traces numbers witness Holds
  of_encoded Holds holds = record {
    lookups = lookups;
    encoded = say;
    traces_below = are.canonical;
    elements = elements;
    elements_are = elements_are;
    witness_is = witness_is;
    holds = holds;
  }

  -- the same over tables of numbers
  pub verifies_tables : ChecksOver (view_of_read read) result → MatchResult answer (λ _. CallVerifiesAir positive E tables traces numbers witness) (IsVerifyAirRefusal positive E tables traces numbers witness)
  verifies_tables over =
      MatchResult-weaker answer (subst (ChecksOver (decoded_traces positive traces)) result_is (subst (λ t. ChecksOver t result) (decoded positive traces read are) over))
      (λ _ verified. of_encoded (λ ls es. IsVerifiedOver E (decoded_traces positive traces) ls es (witness_result positive witness)) verified)
      (λ fault refusal. inr (inr (inr (inr (inr (of_encoded (λ ls es. IsVerifyOverRefusal E (decoded_traces positive traces) ls es (witness_result positive witness) fault) refusal))))))
