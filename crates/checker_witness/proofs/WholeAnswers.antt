-- What is answered for the rows around a range is the answer for the whole trace.
use Rattle.std.proofs.Common.{◌≡◌, ◌⊎◌, ◌+◌, ◌-◌, ◌^◌, ◌/◌, ◌<◌, ◌≤◌, ◌==◌, ℕ, true, zero, suc, cond, inl, inr, List, [], Ok, Some, drop, length, map, slice_get, slice_range, refl, ap, ◌∙◌, arith}
use Rattle.std.proofs.lemmas.List.{length-drop, length-take}
use Rattle.air.specs.Traces.{AirTraces, height_of}
use Rattle.field.specs.Extension.{Extension}
use Rattle.lookup_generation.specs.Ranges.{AnswersRows, faults_between}
use Rattle.lookup_model.proofs.Lookups.SentRows.{length-sent_rows}
use Rattle.lookup_model.specs.Denominators.{key_denominator}
use Rattle.lookup_model.specs.Generated.{plain_matrix}
use Rattle.lookup_model.specs.Plain.{plain_terminal}
use Rattle.lookup_model.specs.Trace.{sent_rows}
use Rattle.lookup_model.specs.declared.error.LookupError.{LookupError}
use Rattle.lookup_model.specs.declared.error.LookupError.TheVariants.{Memory}
use Rattle.lookup_model.specs.declared.types.Lookup.{Lookup}
use Rattle.checker_witness.proofs.Renumbering.{faults_there, first_mapped}
use Rattle.checker_witness.proofs.WindowsAround.{sent_there}
use Rattle.checker_witness.specs.Around.{AreAround, IsRange, place_of_first}
use Rattle.checker_witness.specs.declared.range.RowRange.{RowRange}
use Rattle.checker_witness.specs.internal.Renumbered.{renumbered_fault}
use Rattle.matrix.specs.Matrix.{Matrix, height}

-- a trace with rows has columns
pub has_columns : {T : Type 0} (m : Matrix T) (n : ℕ) → n < height m → 0 < m.width
has_columns m n lt = by_width m.width (λ e. omega (arith, lt, ap (λ b. cond b 0 (length m.values / m.width)) e))
  where
    by_width : (w : ℕ) → ((w == 0) ≡ true → ⊥) → 0 < w
    by_width zero none = absurd (none refl)
    by_width (suc w) none = omega arith

-- no faults, under any numbers
none_mapped : {A B : Type 0} (f : A → B) (xs : List A) → xs ≡ [] → map f xs ≡ []
none_mapped f xs none = ap (map f) none

module _ {F K : Type 0} (E : Extension F K) (whole part : AirTraces F) (lookups : List (Lookup F)) (challenges : List K) (range : RowRange) (is : AreAround range whole part) (some : IsRange range) where
  -- what is sent on the rows of the range
  same : slice_range (sent_rows E.base E.base_eq part lookups) (place_of_first range.first) (place_of_first range.first + (range.end - range.first)) ≡ slice_range (sent_rows E.base E.base_eq whole lookups) range.first range.end
  same =
      let within : range.end ≤ height_of whole = omega (arith, some.within, is.high) in
      ap (λ t. slice_range (sent_rows E.base E.base_eq t lookups) (place_of_first range.first) (place_of_first range.first + (range.end - range.first))) is.part_is
      ∙ sent_there whole range.first range.end some.some within is.main (has_columns whole.main range.first (omega (arith, within, some.some))) is.preprocessed E.base E.base_eq lookups

  long : length (slice_range (sent_rows E.base E.base_eq whole lookups) range.first range.end) ≡ range.end - range.first
  long =
      length-take (range.end - range.first) (drop range.first (sent_rows E.base E.base_eq whole lookups))
      ∙ omega (arith, length-drop range.first (sent_rows E.base E.base_eq whole lookups), length-sent_rows E.base E.base_eq whole lookups, some.within, some.some, is.high)

  faults : range.end ≤ 2 ^ 64 → faults_between E (key_denominator E challenges) (sent_rows E.base E.base_eq whole lookups) range.first range.end ≡ map (renumbered_fault (place_of_first range.first) range.first) (faults_between E (key_denominator E challenges) (sent_rows E.base E.base_eq part lookups) (place_of_first range.first) (place_of_first range.first + (range.end - range.first)))
  faults fits =
      faults_there E (key_denominator E challenges) (place_of_first range.first) range.first (sent_rows E.base E.base_eq part lookups) (sent_rows E.base E.base_eq whole lookups) (place_of_first range.first + (range.end - range.first)) range.end same
      (omega (arith, ap length same ∙ long, some.some, fits))

  pub made_there : (cells : Matrix K) (sum : K) → range.end ≤ 2 ^ 64 → AnswersRows E part lookups challenges (place_of_first range.first) (place_of_first range.first + (range.end - range.first)) (Ok (cells, sum)) → AnswersRows E whole lookups challenges range.first range.end (Ok (cells, sum))
  made_there cells sum fits made = (
    made.0 ∙ ap (plain_matrix E (key_denominator E challenges) lookups) same,
    made.1 ∙ ap (plain_terminal E (key_denominator E challenges)) same,
    faults fits ∙ none_mapped _ _ made.2,
  )

  pub refused_there : (e : LookupError) → range.end ≤ 2 ^ 64
      → ((e ≡ Memory) ⊎ (slice_get (faults_between E (key_denominator E challenges) (sent_rows E.base E.base_eq part lookups) (place_of_first range.first) (place_of_first range.first + (range.end - range.first))) 0 ≡ Some e))
      → (renumbered_fault (place_of_first range.first) range.first e ≡ Memory) ⊎ (slice_get (faults_between E (key_denominator E challenges) (sent_rows E.base E.base_eq whole lookups) range.first range.end) 0 ≡ Some (renumbered_fault (place_of_first range.first) range.first e))
  refused_there e fits (inl memory) = inl (ap (renumbered_fault (place_of_first range.first) range.first) memory)
  refused_there e fits (inr fault) = inr (ap (λ fs. slice_get fs 0) (faults fits) ∙ first_mapped _ _ e fault)
