-- A witness that is made of fractions for each row and of their running sums is satisfied, if each
-- fraction satisfies the constraint of its lookup.
use Rattle.std.proofs.Common.{◌≡◌, ℕ, suc, ◌+◌, ◌*◌, ◌%◌, ◌<◌, ◌==◌, not, Option, Some, List, [], ◌∷◌, length, map, get_or, slice_index_or, refl, sym, ap, subst, ◌∙◌, arith}
use Rattle.std.proofs.Math.Nat.{mod-eq_of_lt}
use Rattle.std.proofs.lemmas.Bool.{eqb-true, eqb-false, not-true}
use Rattle.std.proofs.lemmas.List.{ext_get_or, get_or_default, length-map}
use Rattle.std.specs.List.{AllByRecursion, flat_map, range_with_len}
use Rattle.list_laws.proofs.Each.{all_both, all_images, all_indexed}
use Rattle.list_laws.proofs.Images.{mapped_at}
use Rattle.list_laws.proofs.Items.{item_at}
use Rattle.list_laws.proofs.Parts.{length_rows, row_of_parts}
use Rattle.field.specs.Extension.{Extension, IsLawful}
use Rattle.field.specs.Sums.{sum_in}
use Rattle.matrix.specs.Matrix.{Matrix, height, row}
use Rattle.air_expressions.specs.Window.{ExtWindow}
use Rattle.air.specs.Traces.{AirTraces}
use Rattle.lookup_model.specs.Constraints.{Constraint, accumulator_at, accumulator_constraints, first_constraint, transition_constraint, last_constraint, fraction_at, fraction_constraint, fractions_at, terminal_at}
use Rattle.lookup_model.specs.Records.{AreRecords}
use Rattle.lookup_model.specs.Witness.{HasShape, IsSatisfied, witness_window}
use Rattle.lookup_model.specs.declared.types.Lookup.{Lookup}
use Rattle.lookup_model.specs.declared.types.LookupTerminal.{LookupTerminal}
use Rattle.lookup_model.proofs.ConstraintLaws.{accumulator_constraints-some}
use Rattle.lookup_model.proofs.Lookups.PlainResults.{IsShaped-product, height_of}
use Rattle.lookup_model.proofs.Lookups.Selectors.{selected_zero, taken_apart}
use Rattle.lookup_model.proofs.Lookups.SentRows.{column_is}

module _ {F K : Type 0} {E : Extension F K} (laws : IsLawful E) (challenges : List K) (traces : AirTraces F) (lookups : List (Lookup F)) (records : AreRecords lookups) (some : 0 < length lookups) (sum_below : ℕ → K) (fractions_on : ℕ → List K) (total : K) where
  -- a row of the auxiliary trace: the sum so far, and the fractions
  abbrev pub made_row : ℕ → List K
  made_row r = sum_below r ∷ fractions_on r

  abbrev pub auxiliary : Matrix K
  auxiliary = record { values = flat_map made_row (range_with_len 0 (height traces.main)); width = length lookups + 1 }

  abbrev pub terminal : Option (LookupTerminal K)
  terminal = Some (record { 0 = total })

  abbrev pub window_of : ℕ → ExtWindow F K
  window_of r = witness_window traces challenges auxiliary terminal r

  abbrev IsZeroAt : ℕ → Constraint F K → Type 0
  IsZeroAt r constraint = constraint.meaning (window_of r) ≡ E.ring.zero

  module _ (many : (r : ℕ) → r < height traces.main → length (fractions_on r) ≡ length lookups) where
    row_is : (r : ℕ) → r < height traces.main → row auxiliary r ≡ made_row r
    row_is r lt = row_of_parts made_row (length lookups + 1) (height traces.main) r (λ n below. omega (arith, many n below)) lt

    -- the accumulator and the fractions in its window
    accumulator_is : (r : ℕ) → r < height traces.main → accumulator_at E (window_of r) ≡ sum_below r
    accumulator_is r lt = ap (λ xs. slice_index_or xs 0 E.ring.zero) (row_is r lt)

    fraction_is : (r : ℕ) → r < height traces.main → (k : ℕ) (lookup : Lookup F) → k < length lookups → lookup ≡ get_or lookups k lookup → fraction_at E lookup.column (window_of r) ≡ get_or (fractions_on r) k E.ring.zero
    fraction_is r lt k lookup below is =
        let index : lookup.column + 1 ≡ suc k = omega (arith, column_is lookups k lookup records below is) in
        ap (λ xs. slice_index_or xs (lookup.column + 1) E.ring.zero) (row_is r lt)
        ∙ ap (λ n. slice_index_or (made_row r) n E.ring.zero) index

    fractions_are : (r : ℕ) → r < height traces.main → fractions_at E lookups (window_of r) ≡ sum_in E.ring (fractions_on r)
    fractions_are r lt =
        let f = λ (l : Lookup F). fraction_at E l.column (window_of r) in
        ap (sum_in E.ring) (ext_get_or E.ring.zero (map f lookups) (fractions_on r) (length-map lookups f ∙ sym (many r lt)) (λ k inside. at k (omega (arith, inside, length-map lookups f))))
      where
        at : (k : ℕ) → k < length lookups → get_or (map (λ l. fraction_at E l.column (window_of r)) lookups) k E.ring.zero ≡ get_or (fractions_on r) k E.ring.zero
        at k below =
            let f = λ (l : Lookup F). fraction_at E l.column (window_of r) in
            let (lookup, is) = item_at lookups k below in
            get_or_default (map f lookups) k E.ring.zero (f lookup) (omega (arith, length-map lookups f, below))
            ∙ sym (mapped_at f lookups k lookup below is) ∙ fraction_is r lt k lookup below is

    long : length (flat_map made_row (range_with_len 0 (height traces.main))) ≡ height traces.main * (length lookups + 1)
    long = length_rows made_row (length lookups + 1) 0 (height traces.main) (λ r lt. omega (arith, many r (omega (arith, lt))))

    shape : (ls : List (Lookup F)) → 0 < length ls → length ls ≡ length lookups → HasShape ls (height traces.main) auxiliary terminal
    shape [] nonempty same = absurd (omega (arith, nonempty))
    shape (l ∷ ls) nonempty same = record {
      presence = refl;
      width = ap (λ n. n + 1) (sym same);
      high = height_of auxiliary.values (height traces.main) (length lookups) long;
      whole = IsShaped-product auxiliary.values (height traces.main) (length lookups) long;
    }

    module _ (starts : sum_below 0 ≡ E.ring.zero) (goes_on : (r : ℕ) → r < height traces.main → sum_below (r + 1) ≡ E.ring.add (sum_below r) (sum_in E.ring (fractions_on r))) (ends : (r : ℕ) → r + 1 ≡ height traces.main → total ≡ sum_below (r + 1)) where
      -- the sum after a row
      after_row : (r : ℕ) → r < height traces.main → sum_below (r + 1) ≡ E.ring.add (accumulator_at E (window_of r)) (fractions_at E lookups (window_of r))
      after_row r lt = goes_on r lt ∙ (λ i. E.ring.add (sym (accumulator_is r lt) i) (sym (fractions_are r lt) i))

      -- the constraints of the accumulators
      three_zeros : (r : ℕ) → r < height traces.main → AllByRecursion (IsZeroAt r) (first_constraint E ∷ transition_constraint E lookups ∷ last_constraint E lookups (terminal_at E) (λ t. 0) ∷ [])
      three_zeros r lt = (
        selected_zero laws.ring (r == 0) (accumulator_at E (window_of r)) (λ e. accumulator_is r lt ∙ ap sum_below (eqb-true r 0 e) ∙ starts),
        (
          selected_zero laws.ring (not (r + 1 == height traces.main)) _ (λ e.
              let inner : r + 1 < height traces.main = omega (arith, lt, eqb-false (r + 1) (height traces.main) (not-true (r + 1 == height traces.main) e)) in
              taken_apart laws.ring (accumulator_at E (window_of r)) (fractions_at E lookups (window_of r)) (slice_index_or (row auxiliary ((r + 1) % height traces.main)) 0 E.ring.zero)
              (ap (λ i. slice_index_or (row auxiliary i) 0 E.ring.zero) (mod-eq_of_lt inner) ∙ accumulator_is (r + 1) inner ∙ after_row r lt)),
          (
            selected_zero laws.ring (r + 1 == height traces.main) _ (λ e.
                taken_apart laws.ring (accumulator_at E (window_of r)) (fractions_at E lookups (window_of r)) total
                (ends r (eqb-true (r + 1) (height traces.main) e) ∙ after_row r lt)),
            tt,
          ),
        ),
      )

      -- then it is satisfied if the constraint of each lookup is zero
      pub running_satisfied : ((r : ℕ) → r < height traces.main → (k : ℕ) (lookup : Lookup F) → k < length lookups → lookup ≡ get_or lookups k lookup → fraction_at E lookup.column (window_of r) ≡ get_or (fractions_on r) k E.ring.zero → IsZeroAt r (fraction_constraint E lookup))
          → IsSatisfied E traces lookups challenges auxiliary terminal
      running_satisfied fraction_zero = record {
        shape = shape lookups some refl;
        equations = λ r lt.
            all_both (IsZeroAt r) (map (fraction_constraint E) lookups) (accumulator_constraints E lookups (terminal_at E) (λ t. 0))
            (all_images (IsZeroAt r) (fraction_constraint E) lookups (all_indexed _ lookups (λ k lookup below is. fraction_zero r lt k lookup below is (fraction_is r lt k lookup below is))))
            (subst (AllByRecursion (IsZeroAt r)) (sym (accumulator_constraints-some E lookups (terminal_at E) (λ t. 0) some)) (three_zeros r lt));
      }
