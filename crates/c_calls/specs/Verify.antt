-- What verifying answers from tables of numbers.
use Rattle.std.specs.Prelude.{◌<◌, ◌≡◌, ◌⊎◌, ℕ, List, Result, Ok, Err}
use Rattle.field.specs.Residue.{Residue}
use Rattle.field_monty.specs.Quartic.{Quartic}
use Rattle.lookup_model.specs.declared.witness.Witness.{Witness}
use Rattle.field.specs.Extension.{Extension}
use Rattle.batch.specs.Runs.{PassIsCounted, RefusesOnlyUnaccepted, Run, Verifies, VerifiesOnlyPlain}
use Rattle.batch.specs.declared.error.BatchError.{BatchError}
use Rattle.c_tables.specs.declared.traces.Traces.{Traces}
use Rattle.c_calls.specs.CallAnswers.{CallAnswers}
use Rattle.c_calls.specs.BatchTables.{IsRunOfTablesRefusal, OfRunOfTables}
use Rattle.c_calls.specs.Witnesses.{IsWitnessOfNumbers, IsWitnessRefusal}
use Rattle.c_calls.specs.declared.batch_tables.Air.{Air}
use Rattle.c_calls.specs.declared.fault.Fault.{Fault}
use Rattle.c_calls.specs.declared.fault.Fault.TheVariants.{Batch}
use Rattle.c_calls.specs.declared.refusal.Refusal.{Refusal}
use Rattle.c_calls.specs.declared.witness.AirWitness.{AirWitness}

-- what `BatchPlan::verify` says of its answer
pub record CallVerifiesPlan {F K : Type 0} (witness : Witness K) (run : Run F K) (answer : Result (Unit {0}) BatchError) : Type 0 where
  pub verifies : Verifies run witness answer
  pub only : VerifiesOnlyPlain run witness answer
  pub counted : PassIsCounted run answer
  pub unaccepted : RefusesOnlyUnaccepted run witness answer

module _ {p : ℕ} (positive : 0 < p) (E : Extension (Residue p) (Quartic (Residue p))) (airs : List Air) (traces : List Traces) (alpha beta : List ℕ) (numbers : List AirWitness) where
  -- The plan of the AIRs accepts the witness over the traces, all as the tables encode them.
  abbrev pub VerifiesTables : Type 0
  VerifiesTables =
      (witness : Witness (Quartic (Residue p))) × IsWitnessOfNumbers positive numbers witness × OfRunOfTables positive E airs traces alpha beta (λ run. CallVerifiesPlan witness run (Ok tt))

  -- the refusal of the batch, of a challenge, of the witness's numbers, or of the verification; or memory
  -- runs out
  abbrev pub IsVerifyRefusal : Fault → Type 0
  IsVerifyRefusal fault =
      IsRunOfTablesRefusal positive airs traces alpha beta fault
      ⊎ (IsWitnessRefusal p numbers fault
      ⊎ ((e : BatchError) × (witness : Witness (Quartic (Residue p))) × (fault ≡ Batch e) × IsWitnessOfNumbers positive numbers witness
      × OfRunOfTables positive E airs traces alpha beta (λ run. CallVerifiesPlan witness run (Err e))))

  -- the code and the refusal of a call that verifies a batch
  abbrev pub AnswersVerify : ℕ → Refusal → Type 0
  AnswersVerify code refusal = CallAnswers code refusal VerifiesTables IsVerifyRefusal
