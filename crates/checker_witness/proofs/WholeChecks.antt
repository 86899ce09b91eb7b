-- Constraints hold on the rows of a range exactly if they do among the rows around it.
use Rattle.std.proofs.Common.{◌≡◌, ◌+◌, ◌-◌, ◌*◌, ◌<◌, ◌≤◌, ℕ, List, Option, length, sym, ap, subst, ◌∙◌, arith}
use Rattle.air.specs.Traces.{AirTraces, height_of}
use Rattle.checker_witness.specs.Ranges.{HoldsUntil}
use Rattle.field.specs.Extension.{Extension}
use Rattle.lookup_model.specs.Witness.{HoldsOnRow}
use Rattle.lookup_model.specs.declared.types.Lookup.{Lookup}
use Rattle.lookup_model.specs.declared.types.LookupTerminal.{LookupTerminal}
use Rattle.checker_witness.proofs.WholeAnswers.{has_columns}
use Rattle.checker_witness.proofs.WindowsAround.{holds_here, holds_there}
use Rattle.checker_witness.specs.Around.{AreAround, IsMatrixAround, IsRange, matrix_around, place_of_first}
use Rattle.checker_witness.specs.declared.range.RowRange.{RowRange}
use Rattle.matrix.specs.Matrix.{Matrix}

-- a property that holds on the same rows elsewhere
pub until_there : (P Q : ℕ → Type 0) (from first n r : ℕ) → ((k : ℕ) → k < n → P (from + k) → Q (first + k)) → ((k : ℕ) → k < n → Q (first + k) → P (from + k)) → HoldsUntil P from (from + n) r → HoldsUntil Q first (first + n) (first + (r - from))
until_there P Q from first n r to back until = record {
  from = omega arith;
  up_to = omega (arith, until.up_to);
  holds = λ s low high.
      let k = s - first in
      let here : first + k ≡ s = omega (arith, low) in
      subst Q here (to k (omega (arith, low, high, until.up_to)) (until.holds (from + k) (omega arith) (omega (arith, low, high))));
  fails = λ lt q.
      let k = r - from in
      let here : from + k ≡ r = omega (arith, until.from) in
      until.fails (omega (arith, lt, until.from)) (subst P here (back k (omega (arith, lt)) q));
}

module _ {F K : Type 0} (E : Extension F K) (whole part : AirTraces F) (lookups : List (Lookup F)) (challenges : List K) (auxiliary aux : Matrix K) (terminal : Option (LookupTerminal K)) (range : RowRange) (are : AreAround range whole part) (is : IsMatrixAround range auxiliary aux) (some : IsRange range) where
  within : range.end ≤ height_of whole
  within = omega (arith, some.within, are.high)

  full : length auxiliary.values ≡ height_of whole * auxiliary.width
  full = is.full ∙ ap (λ h. h * auxiliary.width) (sym are.high)

  around_is : matrix_around (height_of whole) range.first range.end auxiliary ≡ aux
  around_is = ap (λ h. matrix_around h range.first range.end auxiliary) are.high ∙ sym is.part_is

  abbrev Around : AirTraces F → Matrix K → ℕ → Type 0
  Around traces matrix r = HoldsOnRow E traces lookups challenges matrix terminal r

  pub check_there : (r : ℕ) → HoldsUntil (Around part aux) (place_of_first range.first) (place_of_first range.first + (range.end - range.first)) r
      → HoldsUntil (Around whole auxiliary) range.first range.end (range.first + (r - place_of_first range.first))
  check_there r until =
      let n = range.end - range.first in
      let ends : range.first + n ≡ range.end = omega (arith, some.some) in
      let wide = has_columns whole.main range.first (omega (arith, within, some.some)) in
      let p = place_of_first range.first in
      subst (λ e. HoldsUntil (Around whole auxiliary) range.first e (range.first + (r - p))) ends
      (until_there (Around part aux) (Around whole auxiliary) p range.first n r
      (λ k lt holds. holds_there whole range.first range.end some.some within are.main wide are.preprocessed k (omega (arith, lt, some.some)) challenges auxiliary terminal full E lookups
      (subst (λ t. Around t (matrix_around (height_of whole) range.first range.end auxiliary) (p + k)) are.part_is (subst (λ m. Around part m (p + k)) (sym around_is) holds)))
      (λ k lt holds. subst (λ m. Around part m (p + k)) around_is (subst (λ t. Around t (matrix_around (height_of whole) range.first range.end auxiliary) (p + k)) (sym are.part_is)
      (holds_here whole range.first range.end some.some within are.main wide are.preprocessed k (omega (arith, lt, some.some)) challenges auxiliary terminal full E lookups holds)))
      until)
