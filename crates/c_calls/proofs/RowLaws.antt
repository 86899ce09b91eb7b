-- Calls on ranges of rows over elements, as calls over tables of numbers.
use Rattle.std.proofs.Common.{◌<◌, ◌≡◌, ◌≢◌, ◌⊎◌, ◌∙◌, ℕ, List, Result, Ok, Err, ap, inl, inr, subst}
use Rattle.field.specs.Residue.{Residue}
use Rattle.air.specs.Traces.{AirTraces}
use Rattle.field.specs.Extension.{Extension}
use Rattle.field_monty.specs.Quartic.{Quartic}
use Rattle.matrix.specs.Matrix.{Matrix}
use Rattle.lookup_generation.specs.Ranges.{AnswersRows}
use Rattle.lookup_model.specs.Challenges.{column_challenges}
use Rattle.lookup_model.specs.declared.error.LookupError.{LookupError}
use Rattle.lookup_model.specs.declared.error.LookupError.TheVariants as error
use Rattle.lookup_model.specs.declared.types.Lookup.{Lookup}
use Rattle.checker_witness.specs.Around.{AreAround}
use Rattle.checker_witness.specs.declared.range.RowRange.{RowRange}
use Rattle.c_tables.specs.declared.tables.Tables.{Tables}
use Rattle.c_tables.specs.declared.traces.Traces.{Traces}
use Rattle.c_calls.specs.GenerateRows.{CallGeneratesRows, IsFirstGenerateRowsFault, OfGenerateRows}
use Rattle.c_calls.specs.Inputs.{decoded_traces}
use Rattle.c_calls.specs.PlannedAirs.{IsPlannedAir, planned_table}
use Rattle.c_calls.specs.Rows.{HasCallRowsAround, range_of}
use Rattle.c_calls.specs.declared.plan.PlanSizes.{PlanSizes}
use Rattle.c_calls.specs.declared.rows.Rows.{Rows}

module _ {F K : Type 0} (E : Extension F K) where
  -- what is answered for a range, of every whole trace
  abbrev pub AnswersAround : AirTraces F → List (Lookup F) → List K → RowRange → Result (Matrix K × K) LookupError → Type 0
  AnswersAround around lookups challenges range answer =
      (whole : AirTraces F) → AreAround range whole around → AnswersRows E whole lookups challenges range.first range.end answer

  -- the same by other names
  pub answers_same : (seen around : AirTraces F) (items lookups : List (Lookup F)) (given challenges : List K) (range wanted : RowRange) (answer : Result (Matrix K × K) LookupError)
      → seen ≡ around → items ≡ lookups → given ≡ challenges → range ≡ wanted → AnswersAround seen items given range answer → AnswersAround around lookups challenges wanted answer
  answers_same seen around items lookups given challenges range wanted answer traces_are lookups_are challenges_are range_is over =
      subst (λ t. AnswersAround t lookups challenges wanted answer) traces_are
      (subst (λ ls. AnswersAround seen ls challenges wanted answer) lookups_are
      (subst (λ cs. AnswersAround seen items cs wanted answer) challenges_are
      (subst (λ r. AnswersAround seen items given r answer) range_is over)))

module _ {p : ℕ} (positive : 0 < p) (E : Extension (Residue p) (Quartic (Residue p))) where
  -- a fault that is not of memory is the first one
  pub first_of_all : (around : Traces) (rows : Rows) (lookups : List (Lookup (Residue p))) (challenges : List (Quartic (Residue p))) (fault : LookupError) → fault ≢ error.Memory
      → AnswersAround E (decoded_traces positive around) lookups challenges (range_of rows) (Err fault) → IsFirstGenerateRowsFault positive E around rows lookups challenges fault
  first_of_all around rows lookups challenges fault other over whole are = by_case (over whole are)
    where
      by_case : {A : Type 0} → (fault ≡ error.Memory) ⊎ A → A
      by_case (inl is) = absurd (other is)
      by_case (inr first) = first

module _ {p : ℕ} (positive : 0 < p) (E : Extension (Residue p) (Quartic (Residue p))) (tables : Tables) (around : Traces) (rows : Rows) (ids : List ℕ) (sizes : PlanSizes) (alpha beta : List ℕ) (lookups items : List (Lookup (Residue p))) (a b : Quartic (Residue p)) (read seen : AirTraces (Residue p)) (given : List (Quartic (Residue p))) (range : RowRange)
    (air : IsPlannedAir positive tables around ids sizes alpha beta lookups a b) (read_is : read ≡ decoded_traces positive around) (has_rows : HasCallRowsAround rows read) (seen_is : seen ≡ read) (items_are : items ≡ lookups) (given_are : given ≡ column_challenges (planned_table E.ring sizes a b) ids) (range_is : range ≡ range_of rows) where
  -- what is answered over what is read
  same : (answer : Result (Matrix (Quartic (Residue p)) × Quartic (Residue p)) LookupError) → AnswersAround E seen items given range answer → AnswersAround E (decoded_traces positive around) lookups (column_challenges (planned_table E.ring sizes a b) ids) (range_of rows) answer
  same answer = answers_same E seen (decoded_traces positive around) items lookups given (column_challenges (planned_table E.ring sizes a b) ids) range (range_of rows) answer (seen_is ∙ read_is) items_are given_are range_is

  -- the rows that are generated
  pub rows_generated : (made : Matrix (Quartic (Residue p)) × Quartic (Residue p)) → AnswersAround E seen items given range (Ok made) → CallGeneratesRows positive E tables around rows ids sizes alpha beta made.0 made.1
  rows_generated made over = record {
    lookups = lookups;
    a = a;
    b = b;
    air = air;
    has_rows = subst (HasCallRowsAround rows) read_is has_rows;
    holds = same (Ok made) over;
  }

  -- the first fault on them
  pub rows_refused : (fault : LookupError) → fault ≢ error.Memory → AnswersAround E seen items given range (Err fault) → OfGenerateRows positive E tables around rows ids sizes alpha beta (λ ls challenges. IsFirstGenerateRowsFault positive E around rows ls challenges fault)
  rows_refused fault other over = record {
    lookups = lookups;
    a = a;
    b = b;
    air = air;
    has_rows = subst (HasCallRowsAround rows) read_is has_rows;
    holds = first_of_all positive E around rows lookups (column_challenges (planned_table E.ring sizes a b) ids) fault other (same (Err fault) over);
  }
