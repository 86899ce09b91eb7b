-- Ranges of rows that calls write, joined to the whole trace.
use Rattle.std.specs.Prelude.{◌<◌, ◌≡◌, ◌≤◌, ◌++◌, ◌∷◌, [], ℕ, List, Ok}
use Rattle.field.specs.Residue.{Residue}
use Rattle.air.specs.Traces.{AirTraces, height_of}
use Rattle.checker_witness.specs.Ranges.{RowsHoldUntil}
use Rattle.field.specs.Extension.{Extension}
use Rattle.field_monty.specs.Quartic.{Quartic}
use Rattle.matrix.specs.Matrix.{Matrix}
use Rattle.lookup_generation.specs.Ranges.{AnswersRows}
use Rattle.lookup_model.specs.Batches.Refusals.{HasShapeAt}
use Rattle.lookup_model.specs.Challenges.{column_challenges}
use Rattle.lookup_model.specs.Witness.{auxiliary_width}
use Rattle.lookup_model.specs.declared.types.Lookup.{Lookup}
use Rattle.checker_witness.specs.Around.{AreAround, IsMatrixAround}
use Rattle.c_tables.specs.Numbers.{numbers_of, quartic_of_numbers}
use Rattle.c_tables.specs.Tables.{TablesEncode}
use Rattle.c_tables.specs.declared.tables.Tables.{Tables}
use Rattle.c_tables.specs.declared.traces.Traces.{Traces}
use Rattle.c_calls.specs.GenerateByIds as by_ids
use Rattle.c_calls.specs.GenerateRows as of_rows
use Rattle.c_calls.specs.Inputs.{decoded_traces}
use Rattle.c_calls.specs.Outputs.{output_cells}
use Rattle.c_calls.specs.PlannedAirs.{IsPlannedAir, planned_table}
use Rattle.c_calls.specs.Rows.{range_of}
use Rattle.c_calls.specs.Shift.{ShiftsCells}
use Rattle.c_calls.specs.VerifyRows.{CallVerifiesRows, instance_with_ids}
use Rattle.c_calls.specs.Witnesses.{witness_auxiliary, witness_terminal}
use Rattle.c_calls.specs.declared.outputs.Terminal.{Terminal}
use Rattle.c_calls.specs.declared.plan.PlanSizes.{PlanSizes}
use Rattle.c_calls.specs.declared.rows.Rows.{Rows}
use Rattle.c_calls.specs.declared.witness.AirWitness.{AirWitness}

-- the terminal of an AIR whose fractions have this sum: there is none without lookups
abbrev pub joined_ending : {F : Type 0} → List (Lookup F) → List ℕ → Terminal
joined_ending [] total = record { present = 0; value = 0 ∷ 0 ∷ 0 ∷ 0 ∷ [] }
joined_ending (lookup ∷ lookups) total = record { present = 1; value = total }

module _ {p : ℕ} (E : Extension (Residue p) (Quartic (Residue p))) (whole : AirTraces (Residue p)) (lookups : List (Lookup (Residue p))) (challenges : List (Quartic (Residue p))) where
  -- The numbers of the rows of a whole trace from `first` up to `end`, with an accumulator that is zero on the
  -- first of them, and of the sum of their fractions.
  pub record AreJoinedRowNumbers (first end : ℕ) (cells : List (List ℕ)) (total : List ℕ) : Type 0 where
    pub auxiliary : Matrix (Quartic (Residue p))
    pub sum : Quartic (Residue p)
    pub answers : AnswersRows E whole lookups challenges first end (Ok (auxiliary, sum))
    pub cells_are : cells ≡ output_cells auxiliary
    pub total_is : total ≡ numbers_of sum

module _ {p : ℕ} (positive : 0 < p) (E : Extension (Residue p) (Quartic (Residue p))) (whole : AirTraces (Residue p)) (lookups : List (Lookup (Residue p))) (challenges : List (Quartic (Residue p))) where
  -- Of two ranges that follow one another, the rows of the first and those of the second, shifted by the sum of the
  -- first, are the rows of both; and the sum of both is that of the second, shifted as one cell.
  abbrev pub NeighbourNumbersJoin : ℕ → ℕ → ℕ → Type 0
  NeighbourNumbersJoin first middle end =
      (cells more shifted : List (List ℕ)) (sum other total : List ℕ) → AreJoinedRowNumbers E whole lookups challenges first middle cells sum → AreJoinedRowNumbers E whole lookups challenges middle end more other
      → ShiftsCells positive more (auxiliary_width lookups) sum E.ring shifted → ShiftsCells positive (other ∷ []) 1 sum E.ring (total ∷ [])
      → AreJoinedRowNumbers E whole lookups challenges first end (cells ++ shifted) total

module _ {p : ℕ} (positive : 0 < p) (E : Extension (Residue p) (Quartic (Residue p))) (tables : Tables) (ids : List ℕ) (sizes : PlanSizes) (alpha beta : List ℕ) where
  -- the challenges of the ids
  abbrev challenges_of_ids : List (Quartic (Residue p))
  challenges_of_ids = column_challenges (planned_table E.ring sizes (quartic_of_numbers positive alpha) (quartic_of_numbers positive beta)) ids

  -- What volgwain_generate_rows writes for the rows around a range are rows of every whole trace that has these
  -- rows around it.
  abbrev pub WritesJoinedRows : Traces → Rows → List (List ℕ) → List ℕ → Type 0
  WritesJoinedRows around rows cells total =
      (whole : AirTraces (Residue p)) (lookups : List (Lookup (Residue p))) → of_rows.GeneratesRowNumbers positive E tables around rows ids sizes alpha beta cells total
      → AreAround (range_of rows) whole (decoded_traces positive around) → TablesEncode tables lookups
      → AreJoinedRowNumbers E whole lookups challenges_of_ids rows.first rows.end cells total

  -- The rows of the range of all rows are what volgwain_generate_by_ids writes for the whole trace, and the sum is
  -- the terminal.
  abbrev pub JoinedRowsAreWhole : Traces → List (List ℕ) → List ℕ → Type 0
  JoinedRowsAreWhole traces cells total =
      (lookups : List (Lookup (Residue p))) → IsPlannedAir positive tables traces ids sizes alpha beta lookups (quartic_of_numbers positive alpha) (quartic_of_numbers positive beta)
      → AreJoinedRowNumbers E (decoded_traces positive traces) lookups challenges_of_ids 0 (height_of (decoded_traces positive traces)) cells total
      → by_ids.GeneratesNumbersByIds positive E tables traces ids sizes alpha beta cells (joined_ending lookups total)

  -- no others are
  abbrev pub WritesOnlyJoinedRows : Traces → List (List ℕ) → Terminal → Type 0
  WritesOnlyJoinedRows traces cells ending =
      (others : List (List ℕ)) (other : Terminal) → by_ids.GeneratesNumbersByIds positive E tables traces ids sizes alpha beta cells ending
      → by_ids.GeneratesNumbersByIds positive E tables traces ids sizes alpha beta others other → (cells ≡ others) × (ending ≡ other)

  -- What volgwain_verify_rows accepts for the rows around a range is true of every whole trace and every whole
  -- auxiliary trace that have these rows around it: the auxiliary trace has the right shape, and all constraints are
  -- zero on the rows of the range.
  abbrev pub ChecksJoinedRows : Traces → Rows → AirWitness → Type 0
  ChecksJoinedRows around rows numbers =
      (whole : AirTraces (Residue p)) (auxiliary : Matrix (Quartic (Residue p))) (lookups : List (Lookup (Residue p))) → CallVerifiesRows positive E tables around rows ids sizes alpha beta numbers
      → AreAround (range_of rows) whole (decoded_traces positive around) → IsMatrixAround (range_of rows) auxiliary (witness_auxiliary positive numbers) → TablesEncode tables lookups
      → HasShapeAt (instance_with_ids lookups ids whole) (auxiliary, witness_terminal positive numbers.terminal)
      × RowsHoldUntil E (planned_table E.ring sizes (quartic_of_numbers positive alpha) (quartic_of_numbers positive beta)) (instance_with_ids lookups ids whole) (auxiliary, witness_terminal positive numbers.terminal) rows.first rows.end rows.end

-- So whatever ranges a trace is cut into, and wherever they are generated, what is written for them joins to what
-- volgwain_generate_by_ids writes for the whole; and where all of them are accepted, all constraints are zero on every
-- row of the whole.
pub record RowsJoin {p : ℕ} (positive : 0 < p) (E : Extension (Residue p) (Quartic (Residue p))) : Type 0 where
  pub rows : (tables : Tables) (ids : List ℕ) (sizes : PlanSizes) (alpha beta : List ℕ) (around : Traces) (rows : Rows) (cells : List (List ℕ)) (total : List ℕ) → WritesJoinedRows positive E tables ids sizes alpha beta around rows cells total
  pub neighbours : (whole : AirTraces (Residue p)) (lookups : List (Lookup (Residue p))) (challenges : List (Quartic (Residue p))) (first middle end : ℕ) → first ≤ middle → middle ≤ end → end ≤ height_of whole → NeighbourNumbersJoin positive E whole lookups challenges first middle end
  pub all_rows : (tables : Tables) (ids : List ℕ) (sizes : PlanSizes) (alpha beta : List ℕ) (traces : Traces) (cells : List (List ℕ)) (total : List ℕ) → JoinedRowsAreWhole positive E tables ids sizes alpha beta traces cells total
  pub only : (tables : Tables) (ids : List ℕ) (sizes : PlanSizes) (alpha beta : List ℕ) (traces : Traces) (cells : List (List ℕ)) (ending : Terminal) → WritesOnlyJoinedRows positive E tables ids sizes alpha beta traces cells ending
  pub checked : (tables : Tables) (ids : List ℕ) (sizes : PlanSizes) (alpha beta : List ℕ) (around : Traces) (rows : Rows) (numbers : AirWitness) → ChecksJoinedRows positive E tables ids sizes alpha beta around rows numbers
