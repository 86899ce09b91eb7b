-- Checks of ranges of rows over elements, as checks over tables of numbers.
use Rattle.std.proofs.Common.{◌<◌, ◌≡◌, ◌≤◌, ◌*◌, ℕ, List, Option, length, arith, subst, sym}
use Rattle.field.specs.Residue.{Residue}
use Rattle.air.specs.Traces.{AirTraces}
use Rattle.checker_witness.specs.Columns.{ColumnsHoldUntil, HasColumns}
use Rattle.checker_witness.specs.Ranges.{RangeAddsUp, RowsHoldUntil}
use Rattle.field.specs.Extension.{Extension}
use Rattle.field_monty.specs.Quartic.{Quartic}
use Rattle.matrix.specs.Matrix.{Matrix}
use Rattle.lookup_model.specs.Batches.Instances.{Instance}
use Rattle.lookup_model.specs.Batches.Refusals.{HasShapeAt, IsShapeRefusal}
use Rattle.lookup_model.specs.Challenges.{column_challenges}
use Rattle.lookup_model.specs.declared.error.LookupError.{LookupError}
use Rattle.lookup_model.specs.declared.types.Lookup.{Lookup}
use Rattle.lookup_model.specs.declared.types.LookupTerminal.{LookupTerminal}
use Rattle.checker_witness.specs.Around.{AreAround, IsMatrixAround, over_traces}
use Rattle.checker_witness.specs.declared.range.RowRange.{RowRange}
use Rattle.c_tables.specs.declared.tables.Tables.{Tables}
use Rattle.c_tables.specs.declared.traces.Traces.{Traces}
use Rattle.c_calls.specs.Inputs.{decoded_traces}
use Rattle.c_calls.specs.PlannedAirs.{IsPlannedAir, planned_table}
use Rattle.c_calls.specs.Rows.{HasCallRowsAround, range_of}
use Rattle.c_calls.specs.VerifyRows.{HasVerifyRowsShape, VerifiedRowsHoldUntil, IsFailingVerifyRow, OfVerifyRows, CallVerifiesRows, instance_with_ids, witness_result}
use Rattle.c_calls.specs.Witnesses.{IsAirWitness, witness_auxiliary, witness_terminal}
use Rattle.c_calls.specs.declared.plan.PlanSizes.{PlanSizes}
use Rattle.c_calls.specs.declared.rows.Rows.{Rows}
use Rattle.c_calls.specs.declared.witness.AirWitness.{AirWitness}

module _ {F K : Type 0} (E : Extension F K) where
  -- up to which row of a range the constraints are zero, of every whole trace
  abbrev pub HoldsAround : Instance F → Matrix K → Option (LookupTerminal K) → List K → RowRange → ℕ → Type 0
  HoldsAround around aux terminal challenges range row =
      (whole : AirTraces F) (auxiliary : Matrix K) → AreAround range whole around.traces → IsMatrixAround range auxiliary aux
      → ColumnsHoldUntil E whole around.lookups challenges (auxiliary, terminal) range.first range.end row

  -- where they are on all rows of the range, these rows of every whole trace add up
  abbrev pub AddsAround : Instance F → Matrix K → Option (LookupTerminal K) → RowRange → ℕ → Type 0
  AddsAround around aux terminal range row =
      (whole : AirTraces F) (auxiliary : Matrix K) → AreAround range whole around.traces → IsMatrixAround range auxiliary aux
      → RangeAddsUp E (over_traces whole around) (auxiliary, terminal) range.first range.end row

-- an AIR that is read has columns
pub read_has_columns : {p : ℕ} {K : Type 0} (positive : 0 < p) (tables : Tables) (around : Traces) (ids : List ℕ) (sizes : PlanSizes) (alpha beta : List ℕ) (lookups : List (Lookup (Residue p))) (a b : Quartic (Residue p)) (instance : Instance (Residue p)) (challenges : List K)
    → IsPlannedAir positive tables around ids sizes alpha beta lookups a b → instance ≡ instance_with_ids lookups ids (decoded_traces positive around) → length challenges ≡ 2 * length ids → HasColumns instance challenges
read_has_columns positive tables around ids sizes alpha beta lookups a b instance challenges air is many = subst (λ (i : Instance _). HasColumns i challenges) (sym is) (record {
  fit = air.fitting.fit;
  heights = air.fitting.heights;
  enough = omega (arith, many, air.read.as_many);
})

module _ {p : ℕ} (positive : 0 < p) (E : Extension (Residue p) (Quartic (Residue p))) (tables : Tables) (around : Traces) (rows : Rows) (ids : List ℕ) (sizes : PlanSizes) (alpha beta : List ℕ) (numbers : AirWitness) (lookups : List (Lookup (Residue p))) (a b : Quartic (Residue p)) (instance : Instance (Residue p))
    (air : IsPlannedAir positive tables around ids sizes alpha beta lookups a b) (has_rows : HasCallRowsAround rows (decoded_traces positive around)) (is : instance ≡ instance_with_ids lookups ids (decoded_traces positive around)) where
  module _ (aux : Matrix (Quartic (Residue p))) (terminal : Option (LookupTerminal (Quartic (Residue p)))) (witness_is : IsAirWitness p numbers) (aux_is : aux ≡ witness_auxiliary positive numbers) (terminal_is : terminal ≡ witness_terminal positive numbers.terminal) where
    result_is : (aux, terminal) ≡ witness_result positive numbers
    result_is i = (aux_is i, terminal_is i)

    -- the refusal of its shape
    pub shape_refused : (error : LookupError) → IsShapeRefusal 0 instance (aux, terminal) error → OfVerifyRows positive E tables around rows ids sizes alpha beta numbers (λ ls _. IsShapeRefusal 0 (instance_with_ids ls ids (decoded_traces positive around)) (witness_result positive numbers) error)
    shape_refused error refusal = record {
      lookups = lookups;
      a = a;
      b = b;
      air = air;
      has_rows = has_rows;
      witness_is = witness_is;
      holds = subst (λ i. IsShapeRefusal 0 i (witness_result positive numbers) error) is (subst (λ r. IsShapeRefusal 0 instance r error) result_is refusal);
    }

    module _ (challenges : List (Quartic (Residue p))) (range : RowRange) (challenges_are : challenges ≡ column_challenges (planned_table E.ring sizes a b) ids) (range_is : range ≡ range_of rows) (shape : HasShapeAt instance (aux, terminal)) (row : ℕ) (over : HoldsAround E instance aux terminal challenges range row) where
      -- what is found of the whole traces
      found : VerifiedRowsHoldUntil positive E around rows ids numbers lookups (planned_table E.ring sizes a b) row
      found =
          let given = column_challenges (planned_table E.ring sizes a b) ids in
          subst (λ i. HoldsAround E i (witness_auxiliary positive numbers) (witness_terminal positive numbers.terminal) given (range_of rows) row) is
          (subst (λ m. HoldsAround E instance m (witness_terminal positive numbers.terminal) given (range_of rows) row) aux_is
          (subst (λ t. HoldsAround E instance aux t given (range_of rows) row) terminal_is
          (subst (λ cs. HoldsAround E instance aux terminal cs (range_of rows) row) challenges_are
          (subst (λ r. HoldsAround E instance aux terminal challenges r row) range_is over))))

      -- and of their sums
      found_sums : AddsAround E instance aux terminal range row → AddsAround E (instance_with_ids lookups ids (decoded_traces positive around)) (witness_auxiliary positive numbers) (witness_terminal positive numbers.terminal) (range_of rows) row
      found_sums sums =
          subst (λ i. AddsAround E i (witness_auxiliary positive numbers) (witness_terminal positive numbers.terminal) (range_of rows) row) is
          (subst (λ m. AddsAround E instance m (witness_terminal positive numbers.terminal) (range_of rows) row) aux_is
          (subst (λ t. AddsAround E instance aux t (range_of rows) row) terminal_is
          (subst (λ r. AddsAround E instance aux terminal r row) range_is sums)))

      right_shape : HasVerifyRowsShape positive E tables around rows ids sizes alpha beta numbers lookups
      right_shape = subst (λ i. HasShapeAt i (witness_result positive numbers)) is (subst (λ r. HasShapeAt instance r) result_is shape)

      -- a row of the range on which a constraint is not zero
      pub row_fails : IsFailingVerifyRow positive E tables around rows ids sizes alpha beta numbers row
      row_fails = record {
        lookups = lookups;
        a = a;
        b = b;
        air = air;
        has_rows = has_rows;
        witness_is = witness_is;
        holds = (right_shape, found);
      }

      -- all are zero
      pub rows_hold : AddsAround E instance aux terminal range row → rows.end ≤ row → CallVerifiesRows positive E tables around rows ids sizes alpha beta numbers
      rows_hold sums past = record {
        lookups = lookups;
        a = a;
        b = b;
        air = air;
        has_rows = has_rows;
        witness_is = witness_is;
        holds = (
          right_shape,
          λ whole auxiliary are is_auxiliary.
              let until = found whole auxiliary are is_auxiliary in
              subst (RowsHoldUntil E (planned_table E.ring sizes a b) (instance_with_ids lookups ids whole) (auxiliary, witness_terminal positive numbers.terminal) rows.first rows.end) (omega (arith, until.up_to, past)) until,
          λ whole auxiliary are is_auxiliary some.
              let until = found whole auxiliary are is_auxiliary in
              found_sums sums whole auxiliary are is_auxiliary some has_rows.range.some (omega (arith, until.up_to, past)),
        );
      }
