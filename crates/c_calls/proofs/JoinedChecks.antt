-- Checks of ranges of rows, as checks of the whole trace.
use Rattle.std.proofs.Common.{◌<◌, ◌≡◌, ◌∙◌, ◌*◌, ◌+◌, ◌∷◌, [], ℕ, List, Option, ap, arith, length, map, refl, subst₂, sym}
use Rattle.field.specs.Residue.{Residue}
use Rattle.air.specs.Traces.{AirTraces, height_of}
use Rattle.checker_witness.specs.Ranges.{RowsHoldUntil}
use Rattle.field.specs.Extension.{Extension}
use Rattle.field_monty.specs.Quartic.{Quartic}
use Rattle.matrix.proofs.Shapes.{shaped_by_rows}
use Rattle.matrix.specs.Matrix.{Matrix, height}
use Rattle.lookup_model.proofs.Lookups.PlainResults.{height_of as rows_of_values}
use Rattle.lookup_model.specs.Challenges.{ChallengeTable, column_challenges}
use Rattle.lookup_model.specs.Outline.{outline_of}
use Rattle.lookup_model.specs.Witness.{HasShape, auxiliary_height, auxiliary_width, has_terminal}
use Rattle.lookup_model.specs.declared.types.Lookup.{Lookup}
use Rattle.lookup_model.specs.declared.types.LookupTerminal.{LookupTerminal}
use Rattle.checker_witness.specs.Around.{IsMatrixAround}
use Rattle.checker_witness.specs.declared.range.RowRange.{RowRange}
use Rattle.c_tables.specs.Numbers.{quartic_of_numbers}
use Rattle.c_tables.specs.declared.tables.Tables.{Tables}
use Rattle.c_tables.specs.declared.traces.Traces.{Traces}
use Rattle.c_calls.specs.JoinedRows.{ChecksJoinedRows}
use Rattle.c_calls.specs.PlannedAirs.{planned_table}
use Rattle.c_calls.specs.Rows.{range_of}
use Rattle.c_calls.specs.VerifyRows.{instance_with_ids}
use Rattle.c_calls.specs.Witnesses.{witness_auxiliary, witness_terminal}
use Rattle.c_calls.specs.declared.plan.PlanSizes.{PlanSizes}
use Rattle.c_calls.specs.declared.rows.Rows.{Rows}
use Rattle.c_calls.specs.declared.witness.AirWitness.{AirWitness}
use Rattle.c_calls.proofs.SameConstraints.{holds_same}
use Rattle.c_calls.proofs.SameLookups.{same_many}

-- as many lookups ask for the same
same_presence : {F : Type 0} (others lookups : List (Lookup F)) → length others ≡ length lookups → has_terminal others ≡ has_terminal lookups
same_presence [] [] many = refl
same_presence [] (l ∷ ls) many = absurd (omega (arith, many))
same_presence (o ∷ os) [] many = absurd (omega (arith, many))
same_presence (o ∷ os) (l ∷ ls) many = refl

same_width : {F : Type 0} (others lookups : List (Lookup F)) → length others ≡ length lookups → auxiliary_width others ≡ auxiliary_width lookups
same_width [] [] many = refl
same_width [] (l ∷ ls) many = absurd (omega (arith, many))
same_width (o ∷ os) [] many = absurd (omega (arith, many))
same_width (o ∷ os) (l ∷ ls) many = λ i. many i + 1

-- the height of an auxiliary trace with whole rows
whole_height : {F K : Type 0} (lookups : List (Lookup F)) (m : Matrix K) (h : ℕ) → m.width ≡ auxiliary_width lookups → length m.values ≡ h * m.width → height m ≡ auxiliary_height lookups h
whole_height [] m h wide full = ap (λ w. height (record { values = m.values; width = w })) wide
whole_height (l ∷ ls) m h wide full =
    ap (λ w. height (record { values = m.values; width = w })) wide ∙ rows_of_values m.values h (length (l ∷ ls)) (full ∙ ap (λ w. h * w) wide)

-- The shape of the rows around a range is that of the whole.
whole_shape : {F K : Type 0} (range : RowRange) (others lookups : List (Lookup F)) (h around : ℕ) (auxiliary part : Matrix K) (terminal : Option (LookupTerminal K)) → length others ≡ length lookups → h ≡ range.height → IsMatrixAround range auxiliary part
    → HasShape others around part terminal → HasShape lookups h auxiliary terminal
whole_shape range others lookups h around auxiliary part terminal many high is shape =
    let wide : auxiliary.width ≡ auxiliary_width lookups = sym (ap (λ m. m.width) is.part_is) ∙ shape.width ∙ same_width others lookups many in
    let full : length auxiliary.values ≡ h * auxiliary.width = is.full ∙ ap (λ n. n * auxiliary.width) (sym high) in
    record {
      presence = sym (same_presence others lookups many) ∙ shape.presence;
      width = wide;
      high = whole_height lookups auxiliary h wide full;
      whole = shaped_by_rows auxiliary.values h auxiliary.width full;
    }

module _ {F K : Type 0} (E : Extension F K) (table : ChallengeTable K) (ids : List ℕ) (whole : AirTraces F) (others lookups : List (Lookup F)) (auxiliary : Matrix K) (terminal : Option (LookupTerminal K)) (same : map outline_of others ≡ map outline_of lookups) where
  -- the same rows hold
  until_same : (first end row : ℕ) → RowsHoldUntil E table (instance_with_ids others ids whole) (auxiliary, terminal) first end row → RowsHoldUntil E table (instance_with_ids lookups ids whole) (auxiliary, terminal) first end row
  until_same first end row until = record {
    from = until.from;
    up_to = until.up_to;
    holds = λ s from before. holds_same E whole others lookups (column_challenges table ids) auxiliary terminal s same (until.holds s from before);
    fails = λ before holds. until.fails before (holds_same E whole lookups others (column_challenges table ids) auxiliary terminal row (sym same) holds);
  }

-- what a call accepts holds on the rows of the whole
pub rows_checked : {p : ℕ} (positive : 0 < p) (E : Extension (Residue p) (Quartic (Residue p))) (tables : Tables) (ids : List ℕ) (sizes : PlanSizes) (alpha beta : List ℕ) (around : Traces) (rows : Rows) (numbers : AirWitness) → ChecksJoinedRows positive E tables ids sizes alpha beta around rows numbers
rows_checked positive E tables ids sizes alpha beta around rows numbers whole auxiliary lookups verified are is encoded =
    let same = encoded.only verified.lookups verified.air.read.encoded.are in
    let many = same_many verified.lookups lookups same in
    let terminal = witness_terminal positive numbers.terminal in (
      whole_shape (range_of rows) verified.lookups lookups (height_of whole) _ auxiliary (witness_auxiliary positive numbers) terminal many are.high is verified.holds.0,
      until_same E (planned_table E.ring sizes (quartic_of_numbers positive alpha) (quartic_of_numbers positive beta)) ids whole verified.lookups lookups auxiliary terminal same rows.first rows.end rows.end
          (subst₂ (λ a b. RowsHoldUntil E (planned_table E.ring sizes a b) (instance_with_ids verified.lookups ids whole) (auxiliary, terminal) rows.first rows.end rows.end) verified.air.read.alpha_is.0 verified.air.read.beta_is.0 (verified.holds.1 whole auxiliary are is)),
    )
