-- What generation of a range of rows answers from tables of numbers.
use Rattle.std.specs.Prelude.{◌<◌, ◌≡◌, ◌⊎◌, ℕ, List, Ok, Some, slice_get}
use Rattle.field.specs.Residue.{Residue}
use Rattle.air.specs.Traces.{AirTraces}
use Rattle.field.specs.Extension.{Extension}
use Rattle.field_monty.specs.Quartic.{Quartic}
use Rattle.matrix.specs.Matrix.{Matrix}
use Rattle.lookup_generation.specs.Ranges.{AnswersRows, faults_between}
use Rattle.lookup_model.specs.Challenges.{column_challenges}
use Rattle.lookup_model.specs.Denominators.{key_denominator}
use Rattle.lookup_model.specs.Trace.{sent_rows}
use Rattle.lookup_model.specs.declared.error.LookupError.{LookupError}
use Rattle.lookup_model.specs.declared.types.Lookup.{Lookup}
use Rattle.checker_witness.specs.Around.{AreAround}
use Rattle.c_tables.specs.Numbers.{numbers_of}
use Rattle.c_tables.specs.declared.tables.Tables.{Tables}
use Rattle.c_tables.specs.declared.traces.Traces.{Traces}
use Rattle.c_calls.specs.CallAnswers.{CallAnswers}
use Rattle.c_calls.specs.Generate.{HasOtherGenerateRoom}
use Rattle.c_calls.specs.Inputs.{decoded_traces}
use Rattle.c_calls.specs.Outputs.{output_cells}
use Rattle.c_calls.specs.PlannedAirs.{IsPlannedAirRefusal, IsPlannedAir, planned_table}
use Rattle.c_calls.specs.Rows.{HasCallRowsAround, IsRowsRefusal, range_of}
use Rattle.c_calls.specs.declared.fault.Fault.{Fault}
use Rattle.c_calls.specs.declared.fault.Fault.TheVariants.{Lookup as OfLookup, Memory}
use Rattle.c_calls.specs.declared.plan.PlanSizes.{PlanSizes}
use Rattle.c_calls.specs.declared.refusal.Refusal.{Refusal}
use Rattle.c_calls.specs.declared.rows.Rows.{Rows}

module _ {p : ℕ} (positive : 0 < p) (E : Extension (Residue p) (Quartic (Residue p))) (around : Traces) (rows : Rows) (lookups : List (Lookup (Residue p))) (challenges : List (Quartic (Residue p))) where
  -- In every whole trace that has these rows around the range, these are the rows of the range of its plain
  -- result, with an accumulator that is zero on the first of them, and the sum of their fractions. None of them
  -- has a fault.
  abbrev pub AreGeneratedRowsOfAll : Matrix (Quartic (Residue p)) → Quartic (Residue p) → Type 0
  AreGeneratedRowsOfAll auxiliary sum =
      (whole : AirTraces (Residue p)) → AreAround (range_of rows) whole (decoded_traces positive around) → AnswersRows E whole lookups challenges rows.first rows.end (Ok (auxiliary, sum))

  -- In every such trace this is the first fault on the rows of the range.
  abbrev pub IsFirstGenerateRowsFault : LookupError → Type 0
  IsFirstGenerateRowsFault error =
      (whole : AirTraces (Residue p)) → AreAround (range_of rows) whole (decoded_traces positive around)
      → slice_get (faults_between E (key_denominator E challenges) (sent_rows E.base E.base_eq whole lookups) rows.first rows.end) 0 ≡ Some error

module _ {p : ℕ} (positive : 0 < p) (E : Extension (Residue p) (Quartic (Residue p))) (tables : Tables) (around : Traces) (rows : Rows) (ids : List ℕ) (sizes : PlanSizes) (alpha beta : List ℕ) where
  -- something holds of the lookups and the challenges that the tables and numbers encode, where the traces have
  -- the rows around the range
  pub record OfGenerateRows (Holds : List (Lookup (Residue p)) → List (Quartic (Residue p)) → Type 0) : Type 0 where
    pub lookups : List (Lookup (Residue p))
    pub a : Quartic (Residue p)
    pub b : Quartic (Residue p)
    pub air : IsPlannedAir positive tables around ids sizes alpha beta lookups a b
    pub has_rows : HasCallRowsAround rows (decoded_traces positive around)
    pub holds : Holds lookups (column_challenges (planned_table E.ring sizes a b) ids)

  -- the rows of the range, and the sum of their fractions
  abbrev pub CallGeneratesRows : Matrix (Quartic (Residue p)) → Quartic (Residue p) → Type 0
  CallGeneratesRows auxiliary sum = OfGenerateRows (λ lookups challenges. AreGeneratedRowsOfAll positive E around rows lookups challenges auxiliary sum)

  -- the refusal of the AIR, of the range or the height of the traces, or the first fault; or memory runs out
  abbrev pub IsGenerateRowsRefusal : Fault → Type 0
  IsGenerateRowsRefusal fault =
      IsPlannedAirRefusal positive tables around ids sizes alpha beta fault
      ⊎ (IsRowsRefusal rows (decoded_traces positive around) fault
      ⊎ ((fault ≡ Memory)
      ⊎ (error : LookupError) × (fault ≡ OfLookup 0 error) × OfGenerateRows (λ lookups challenges. IsFirstGenerateRowsFault positive E around rows lookups challenges error)))

  -- the numbers of what is generated
  pub record GeneratesRowNumbers (cells : List (List ℕ)) (total : List ℕ) : Type 0 where
    pub auxiliary : Matrix (Quartic (Residue p))
    pub sum : Quartic (Residue p)
    pub generates : CallGeneratesRows auxiliary sum
    pub cells_are : cells ≡ output_cells auxiliary
    pub total_is : total ≡ numbers_of sum

  -- the refusal of a call with room for so many cells
  abbrev pub IsGenerateRowsCallRefusal : ℕ → Fault → Type 0
  IsGenerateRowsCallRefusal room fault =
      IsGenerateRowsRefusal fault
      ⊎ ((auxiliary : Matrix (Quartic (Residue p))) × (sum : Quartic (Residue p)) × CallGeneratesRows auxiliary sum × HasOtherGenerateRoom auxiliary room fault)

  -- what such a call answers
  abbrev pub AnswersGenerateRows : ℕ → List (List ℕ) → List ℕ → ℕ → Refusal → Type 0
  AnswersGenerateRows room cells total code refusal = CallAnswers code refusal (GeneratesRowNumbers cells total) (IsGenerateRowsCallRefusal room)
