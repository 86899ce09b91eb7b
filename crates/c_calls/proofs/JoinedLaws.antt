-- The numbers of ranges of rows join.
use Rattle.std.proofs.Common.{◌<◌, ◌≡◌, ◌∙◌, ◌≤◌, ◌++◌, ◌∷◌, [], ℕ, List, Ok, ap, map, refl, subst₂, sym}
use Rattle.std.proofs.lemmas.List.{map-append}
use Rattle.field.specs.Residue.{Residue}
use Rattle.air.specs.Traces.{AirTraces, height_of}
use Rattle.field.specs.Extension.{Extension}
use Rattle.field_monty.specs.Quartic.{Quartic}
use Rattle.lookup_generation.specs.Ranges.{AnswersRows, RangesJoin, joined_rows, shifted_matrix, terminal_if_any}
use Rattle.lookup_model.specs.Challenges.{column_challenges}
use Rattle.lookup_model.specs.Denominators.{key_denominator}
use Rattle.lookup_model.specs.Generated.{plain_matrix, plain_terminal_of}
use Rattle.lookup_model.specs.Message.{Key}
use Rattle.lookup_model.specs.Sent.{Sent}
use Rattle.lookup_model.specs.Trace.{sent_rows}
use Rattle.lookup_model.specs.Witness.{auxiliary_width}
use Rattle.lookup_model.specs.declared.types.Lookup.{Lookup}
use Rattle.c_tables.specs.Numbers.{numbers_of, quartic_of_numbers}
use Rattle.c_tables.specs.declared.tables.Tables.{Tables}
use Rattle.c_tables.specs.declared.traces.Traces.{Traces}
use Rattle.c_calls.specs.Inputs.{decoded_traces}
use Rattle.c_calls.specs.JoinedRows.{JoinedRowsAreWhole, AreJoinedRowNumbers, NeighbourNumbersJoin, RowsJoin, WritesOnlyJoinedRows, WritesJoinedRows, joined_ending}
use Rattle.c_calls.specs.Outputs.{output_cells, terminal_numbers}
use Rattle.c_calls.specs.PlannedAirs.{planned_table}
use Rattle.c_calls.specs.Shift.{shift_rows, shifted_cells}
use Rattle.c_calls.specs.declared.outputs.Terminal.{Terminal}
use Rattle.c_calls.specs.declared.plan.PlanSizes.{PlanSizes}
use Rattle.c_calls.specs.declared.rows.Rows.{Rows}
use Rattle.c_calls.proofs.CellLaws.{same_quartic}
use Rattle.c_calls.proofs.JoinedChecks.{rows_checked}
use Rattle.c_calls.proofs.SameLookups.{matrix_same, range_same, terminal_same}

-- elements are those of their numbers
same_elements : {p : ℕ} (positive : 0 < p) (xs : List (Quartic (Residue p))) → map (quartic_of_numbers positive) (map numbers_of xs) ≡ xs
same_elements positive [] = refl
same_elements positive (x ∷ xs) = λ i. same_quartic positive x i ∷ same_elements positive xs i

-- the only item of a list
only_item : {A : Type 0} (x y : A) → x ∷ [] ≡ y ∷ [] → x ≡ y
only_item x y same = cc same

module _ {p : ℕ} (positive : 0 < p) (E : Extension (Residue p) (Quartic (Residue p))) where
  -- rows of the plain result are as wide as there are lookups
  wide : (denominator : Key (Residue p) → Quartic (Residue p)) (lookups : List (Lookup (Residue p))) (rows : List (List (Sent (Residue p)))) → (plain_matrix E denominator lookups rows).width ≡ auxiliary_width lookups
  wide denominator [] rows = refl
  wide denominator (l ∷ ls) rows = refl

  -- one cell is shifted
  cell_shifted : (total sum other : List ℕ) → total ∷ [] ≡ shifted_cells positive E.ring (quartic_of_numbers positive sum) 1 (other ∷ []) → total ≡ numbers_of (E.ring.add (quartic_of_numbers positive sum) (quartic_of_numbers positive other))
  cell_shifted total sum other is = only_item total (numbers_of (E.ring.add (quartic_of_numbers positive sum) (quartic_of_numbers positive other))) is

  module _ (whole : AirTraces (Residue p)) (lookups : List (Lookup (Residue p))) (challenges : List (Quartic (Residue p))) (first end : ℕ) (cells : List (List ℕ)) (total : List ℕ) (numbers : AreJoinedRowNumbers E whole lookups challenges first end cells total) where
    -- the sum is the element of its numbers
    sum_is : quartic_of_numbers positive total ≡ numbers.sum
    sum_is = ap (quartic_of_numbers positive) numbers.total_is ∙ same_quartic positive numbers.sum

    -- the rows are those of their numbers
    rows_are : shift_rows positive cells (auxiliary_width lookups) ≡ numbers.auxiliary
    rows_are =
        let values_are = ap (map (quartic_of_numbers positive)) numbers.cells_are ∙ same_elements positive numbers.auxiliary.values in
        let width_is = ap (λ m. m.width) numbers.answers.0 ∙ wide _ lookups _ in
        λ i. record { values = values_are i; width = sym width_is i }

  -- what a call writes for a range
  rows_written : (tables : Tables) (ids : List ℕ) (sizes : PlanSizes) (alpha beta : List ℕ) (around : Traces) (rows : Rows) (cells : List (List ℕ)) (total : List ℕ) → WritesJoinedRows positive E tables ids sizes alpha beta around rows cells total
  rows_written tables ids sizes alpha beta around rows cells total whole lookups made are encoded =
      let call = made.generates in
      record {
        auxiliary = made.auxiliary;
        sum = made.sum;
        answers =
            range_same E whole call.lookups lookups (encoded.only call.lookups call.air.read.encoded.are) (column_challenges (planned_table E.ring sizes (quartic_of_numbers positive alpha) (quartic_of_numbers positive beta)) ids) rows.first rows.end made.auxiliary made.sum
            (subst₂ (λ a b. AnswersRows E whole call.lookups (column_challenges (planned_table E.ring sizes a b) ids) rows.first rows.end (Ok (made.auxiliary, made.sum))) call.air.read.alpha_is.0 call.air.read.beta_is.0 (call.holds whole are));
        cells_are = made.cells_are;
        total_is = made.total_is;
      }

  -- no other numbers are written for a whole trace
  writes_only : (tables : Tables) (ids : List ℕ) (sizes : PlanSizes) (alpha beta : List ℕ) (traces : Traces) (cells : List (List ℕ)) (ending : Terminal) → WritesOnlyJoinedRows positive E tables ids sizes alpha beta traces cells ending
  writes_only tables ids sizes alpha beta traces cells ending others other one two =
      let seen = decoded_traces positive traces in
      let rows = sent_rows E.base E.base_eq seen in
      let a = one.generates in
      let b = two.generates in
      let same = a.air.read.encoded.only b.lookups b.air.read.encoded.are in
      let theirs = column_challenges (planned_table E.ring sizes b.a b.b) ids in
      let same_challenges : column_challenges (planned_table E.ring sizes a.a a.b) ids ≡ theirs =
      λ i. column_challenges (planned_table E.ring sizes ((a.air.read.alpha_is.0 ∙ sym b.air.read.alpha_is.0) i) ((a.air.read.beta_is.0 ∙ sym b.air.read.beta_is.0) i)) ids in (
        one.cells_are
            ∙ ap output_cells (a.generates.auxiliary_is ∙ ap (λ cs. plain_matrix E (key_denominator E cs) a.lookups (rows a.lookups)) same_challenges ∙ sym (matrix_same E seen b.lookups a.lookups same theirs) ∙ sym b.generates.auxiliary_is)
            ∙ sym two.cells_are,
        one.ending_is
            ∙ ap terminal_numbers (a.generates.terminal_is ∙ ap (λ cs. plain_terminal_of E (key_denominator E cs) a.lookups (rows a.lookups)) same_challenges ∙ sym (terminal_same E seen b.lookups a.lookups same theirs) ∙ sym b.generates.terminal_is)
            ∙ sym two.ending_is,
      )

  module _ (join : RangesJoin E) where
    -- two neighbours join
    neighbours_join : (whole : AirTraces (Residue p)) (lookups : List (Lookup (Residue p))) (challenges : List (Quartic (Residue p))) (first middle end : ℕ) → first ≤ middle → middle ≤ end → end ≤ height_of whole → NeighbourNumbersJoin positive E whole lookups challenges first middle end
    neighbours_join whole lookups challenges first middle end from between within cells more moved sum other total made next is_moved is_sum =
        let offset = sum_is whole lookups challenges first middle cells sum made in
        record {
          auxiliary = joined_rows E.ring made.auxiliary made.sum next.auxiliary;
          sum = E.ring.add made.sum next.sum;
          answers = (join.neighbours whole lookups challenges first middle end from between within).made made.auxiliary next.auxiliary made.sum next.sum made.answers next.answers;
          cells_are =
              (λ i. made.cells_are i ++ is_moved.after_is i)
              ∙ (λ i. output_cells made.auxiliary ++ output_cells (shifted_matrix E.ring (offset i) (rows_are whole lookups challenges middle end more other next i)))
              ∙ sym (map-append numbers_of made.auxiliary.values (shifted_matrix E.ring made.sum next.auxiliary).values);
          total_is = cell_shifted total sum other is_sum.after_is ∙ (λ i. numbers_of (E.ring.add (offset i) (sum_is whole lookups challenges middle end more other next i)));
        }

    -- the terminal of a sum
    ending_is : (lookups : List (Lookup (Residue p))) (total : List ℕ) (sum : Quartic (Residue p)) → total ≡ numbers_of sum → joined_ending lookups total ≡ terminal_numbers (terminal_if_any lookups sum)
    ending_is [] total sum is = refl
    ending_is (l ∷ ls) total sum is = λ i. record { present = 1; value = is i }

    -- all rows are the whole trace
    all_rows_are_whole : (tables : Tables) (ids : List ℕ) (sizes : PlanSizes) (alpha beta : List ℕ) (traces : Traces) (cells : List (List ℕ)) (total : List ℕ) → JoinedRowsAreWhole positive E tables ids sizes alpha beta traces cells total
    all_rows_are_whole tables ids sizes alpha beta traces cells total lookups air numbers =
        let challenges = column_challenges (planned_table E.ring sizes (quartic_of_numbers positive alpha) (quartic_of_numbers positive beta)) ids in
        let generated = (join.all_rows (decoded_traces positive traces) lookups challenges air.fitting.fit.records).made numbers.auxiliary numbers.sum numbers.answers in
        record {
          auxiliary = numbers.auxiliary;
          terminal = terminal_if_any lookups numbers.sum;
          generates = record {
            lookups = lookups;
            a = quartic_of_numbers positive alpha;
            b = quartic_of_numbers positive beta;
            air = air;
            generates = record { fitting = air.fitting; auxiliary_is = generated.0; terminal_is = generated.1; faultless = generated.2; satisfied = generated.3 };
          };
          cells_are = numbers.cells_are;
          ending_is = ending_is lookups total numbers.sum numbers.total_is;
        }

    -- what calls write for ranges joins
    pub rows_join_of : RowsJoin positive E
    rows_join_of = record {
      rows = rows_written;
      neighbours = neighbours_join;
      all_rows = all_rows_are_whole;
      only = writes_only;
      checked = rows_checked positive E;
    }
