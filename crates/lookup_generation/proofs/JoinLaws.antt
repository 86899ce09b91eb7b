-- Ranges that follow one another join.
use Rattle.std.proofs.Common.{◌≡◌, ◌⊎◌, ℕ, ◌+◌, ◌-◌, ◌<◌, ◌≤◌, inl, inr, Ok, Err, Some, List, [], ◌∷◌, ◌++◌, length, map, take, drop, get_or, slice_get, slice_range, refl, sym, ap, subst, ◌∙◌, arith}
use Rattle.std.proofs.lemmas.Grind.{flat_map-append}
use Rattle.std.proofs.lemmas.List.{drop-drop, drop-take, get_or-drop, get_or-take, length-drop, length-take, take-append-drop, take-take, take_all}
use Rattle.std.specs.List.{enumerate_from, flat_map, range_with_len}
use Rattle.air.specs.Traces.{AirTraces, height_of}
use Rattle.field.specs.Extension.{Extension, IsLawful}
use Rattle.field.specs.Sums.{sum_in}
use Rattle.list_laws.proofs.Items.{enumerate_from-append, first_stays}
use Rattle.lookup_generation.proofs.MadeRows.{plain_answer}
use Rattle.lookup_generation.proofs.RangeFaults.{faults_of_all}
use Rattle.lookup_generation.proofs.RangeLaws.{cells_alone, range_shifted}
use Rattle.lookup_generation.proofs.RangeLists.{joined_parts}
use Rattle.lookup_generation.specs.Ranges.{AllRowsAreWhole, AnswersRows, NeighboursJoin, RangesJoin, faults_between, joined_rows, shifted_matrix, terminal_if_any}
use Rattle.lookup_model.proofs.Lookups.SentRows.{length-sent_rows, length-sent_rows-at}
use Rattle.lookup_model.proofs.Lookups.Terminals.{plain_terminal-sum}
use Rattle.lookup_model.proofs.SumLaws.{sum_in-append}
use Rattle.lookup_model.specs.Denominators.{key_denominator}
use Rattle.lookup_model.specs.Fault.{row_faults, trace_faults}
use Rattle.lookup_model.specs.Generated.{plain_matrix, plain_terminal_of}
use Rattle.lookup_model.specs.Message.{Key}
use Rattle.lookup_model.specs.Plain.{plain_accumulator, plain_cells, plain_fraction, plain_row, plain_terminal}
use Rattle.lookup_model.specs.Records.{AreRecords}
use Rattle.lookup_model.specs.Sent.{Sent}
use Rattle.lookup_model.specs.Trace.{sent_rows}
use Rattle.lookup_model.specs.declared.error.LookupError.{LookupError}
use Rattle.lookup_model.specs.declared.types.Lookup.{Lookup}
use Rattle.matrix.specs.Matrix.{Matrix}

-- a range of a list, up to some item and from there on
module _ {A : Type 0} (xs : List A) (first middle end : ℕ) (from : first ≤ middle) (to : middle ≤ end) where
  pub range_front : take (middle - first) (slice_range xs first end) ≡ slice_range xs first middle
  range_front = take-take (middle - first) (end - first) (drop first xs) (omega (arith, from, to))

  pub range_back : drop (middle - first) (slice_range xs first end) ≡ slice_range xs middle end
  range_back =
      let parts : end - first ≡ (middle - first) + (end - middle) = omega (arith, from, to) in
      let here : (middle - first) + first ≡ middle = omega (arith, from) in
      ap (λ n. drop (middle - first) (take n (drop first xs))) parts
      ∙ drop-take (middle - first) (end - middle) (drop first xs)
      ∙ ap (take (end - middle)) (drop-drop (middle - first) first xs ∙ ap (λ n. drop n xs) (omega (arith, here)))

  pub range_parts : slice_range xs first end ≡ slice_range xs first middle ++ slice_range xs middle end
  range_parts = sym (take-append-drop (middle - first) (slice_range xs first end)) ∙ (λ i. range_front i ++ range_back i)

  pub length-front : end ≤ length xs → length (slice_range xs first middle) ≡ middle - first
  length-front within = length-take (middle - first) (drop first xs) ∙ omega (arith, length-drop first xs, from, to, within)

module _ {F K : Type 0} {E : Extension F K} (laws : IsLawful E) (denominator : Key F → K) where
  -- the sum of rows in two parts
  terminal_joined : (a b : List (List (Sent F))) → plain_terminal E denominator (a ++ b) ≡ E.ring.add (plain_terminal E denominator a) (plain_terminal E denominator b)
  terminal_joined a b =
      let f = λ (r : List (Sent F)). map (plain_fraction E denominator) r in
      plain_terminal-sum laws denominator (a ++ b)
      ∙ ap (sum_in E.ring) (flat_map-append f a b)
      ∙ sum_in-append laws.ring (flat_map f a) (flat_map f b)
      ∙ (λ i. E.ring.add (sym (plain_terminal-sum laws denominator a) i) (sym (plain_terminal-sum laws denominator b) i))

  -- the cells of rows in two parts
  cells_joined : (rows : List (List (Sent F))) (m a : ℕ) → ((r : ℕ) → r < length rows → length (get_or rows r []) ≡ m) → a ≤ length rows
      → plain_cells E denominator rows ≡ plain_cells E denominator (take a rows) ++ (shifted_matrix E.ring (plain_terminal E denominator (take a rows)) (record { values = plain_cells E denominator (drop a rows); width = m + 1 })).values
  cells_joined rows m a wide within =
      let all = plain_row E denominator rows in
      let n = length rows - a in
      let whole : length rows ≡ a + n = omega (arith, within) in
      let rest : take n (drop a rows) ≡ drop a rows = take_all n (drop a rows) (omega (arith, length-drop a rows)) in
      ap (λ k. flat_map all (range_with_len 0 k)) whole
      ∙ joined_parts all 0 a n
      ∙ ap (λ t. t ++ flat_map all (range_with_len (0 + a) n)) (cells_alone laws denominator rows a (flat_map all (range_with_len 0 a)) (plain_accumulator E denominator rows a) within (record { cells_are = refl; accumulator_is = refl }))
      ∙ ap (λ t. plain_cells E denominator (take a rows) ++ t)
      (ap (λ b. flat_map all (range_with_len b n)) (omega arith) ∙ range_shifted laws denominator rows m wide a (length rows) within (omega arith)
      ∙ (λ i. (shifted_matrix E.ring (sym (plain_terminal-sum laws denominator (take a rows)) i) (record { values = plain_cells E denominator (rest i); width = m + 1 })).values))

  -- the faults of a range in two parts
  faults_joined : (rows : List (List (Sent F))) (first middle end : ℕ) → first ≤ middle → middle ≤ end → end ≤ length rows
      → faults_between E denominator rows first end ≡ faults_between E denominator rows first middle ++ faults_between E denominator rows middle end
  faults_joined rows first middle end from to within =
      let f = λ (p : ℕ × List (Sent F)). row_faults E denominator p.0 p.1 in
      let front = slice_range rows first middle in
      let back = slice_range rows middle end in
      let next : first + length front ≡ middle = omega (arith, length-front rows first middle end from to within, from) in
      ap (λ t. flat_map f (enumerate_from first t)) (range_parts rows first middle end from to)
      ∙ ap (flat_map f) (enumerate_from-append first front back ∙ ap (λ n. enumerate_from first front ++ enumerate_from n back) next)
      ∙ flat_map-append f (enumerate_from first front) (enumerate_from middle back)

module _ {F K : Type 0} {E : Extension F K} (laws : IsLawful E) (traces : AirTraces F) (challenges : List K) where
  -- the rows and the sums of both
  pub neighbours_made : (lookups : List (Lookup F)) (first middle end : ℕ) → first ≤ middle → middle ≤ end → end ≤ height_of traces → (m n : Matrix K) (s t : K) → AnswersRows E traces lookups challenges first middle (Ok (m, s)) → AnswersRows E traces lookups challenges middle end (Ok (n, t))
      → AnswersRows E traces lookups challenges first end (Ok (joined_rows E.ring m s n, E.ring.add s t))
  neighbours_made [] first middle end from to within m n s t one other =
      let rows = sent_rows E.base E.base_eq traces [] in
      let high = length-sent_rows E.base E.base_eq traces [] in (
        (λ i. joined_rows E.ring (one.0 i) s (other.0 i)),
        (λ i. E.ring.add (one.1 i) (other.1 i)) ∙ sym (terminal_joined laws (key_denominator E challenges) (slice_range rows first middle) (slice_range rows middle end)) ∙ ap (plain_terminal E (key_denominator E challenges)) (sym (range_parts rows first middle end from to)),
        faults_joined laws (key_denominator E challenges) rows first middle end from to (omega (arith, high, within)) ∙ (λ i. one.2 i ++ other.2 i),
      )
  neighbours_made (l ∷ ls) first middle end from to within m n s t one other =
      let lookups = l ∷ ls in
      let d = key_denominator E challenges in
      let rows = sent_rows E.base E.base_eq traces lookups in
      let range = slice_range rows first end in
      let high = length-sent_rows E.base E.base_eq traces lookups in
      let many : length range ≡ end - first = length-take (end - first) (drop first rows) ∙ omega (arith, length-drop first rows, high, from, to, within) in
      let wide = λ (r : ℕ) (lt : r < length range).
      ap length (get_or-take (end - first) (drop first rows) r [] (omega (arith, lt, many)) ∙ get_or-drop first rows r [])
      ∙ length-sent_rows-at E.base E.base_eq traces lookups (first + r) (omega (arith, lt, many, from, to, within)) in
      let front = range_front rows first middle end from to in
      let back = range_back rows first middle end from to in
      let cells : plain_cells E d range ≡ plain_cells E d (slice_range rows first middle) ++ (shifted_matrix E.ring (plain_terminal E d (slice_range rows first middle)) (record { values = plain_cells E d (slice_range rows middle end); width = length lookups + 1 })).values =
      cells_joined laws d range (length lookups) (middle - first) wide (omega (arith, many, to))
      ∙ (λ i. plain_cells E d (front i) ++ (shifted_matrix E.ring (plain_terminal E d (front i)) (record { values = plain_cells E d (back i); width = length lookups + 1 })).values) in (
        (λ i. joined_rows E.ring (one.0 i) (one.1 i) (other.0 i)) ∙ (λ i. record { values = sym cells i; width = length lookups + 1 }),
        (λ i. E.ring.add (one.1 i) (other.1 i)) ∙ sym (terminal_joined laws d (slice_range rows first middle) (slice_range rows middle end)) ∙ ap (plain_terminal E d) (sym (range_parts rows first middle end from to)),
        faults_joined laws d rows first middle end from to (omega (arith, high, within)) ∙ (λ i. one.2 i ++ other.2 i),
      )

  neighbours_of : (lookups : List (Lookup F)) (first middle end : ℕ) → first ≤ middle → middle ≤ end → end ≤ height_of traces → NeighboursJoin E traces lookups challenges first middle end
  neighbours_of lookups first middle end from to within =
      let rows = sent_rows E.base E.base_eq traces lookups in
      let d = key_denominator E challenges in
      let parts = faults_joined laws d rows first middle end from to (omega (arith, length-sent_rows E.base E.base_eq traces lookups, within)) in
      record {
        made = neighbours_made lookups first middle end from to within;
        first_refused = λ e refused. elim refused [
          | inl memory ↦ inl memory
          | inr fault ↦ inr (ap (λ fs. slice_get fs 0) parts ∙ first_stays (faults_between E d rows first middle) (faults_between E d rows middle end) e fault)
        ];
        later_refused = λ m s e made refused. elim refused [
          | inl memory ↦ inl memory
          | inr fault ↦ inr (ap (λ fs. slice_get fs 0) (parts ∙ ap (λ t. t ++ faults_between E d rows middle end) made.2) ∙ fault)
        ];
      }

  all_rows_of : (lookups : List (Lookup F)) → AreRecords lookups → AllRowsAreWhole E traces lookups challenges
  all_rows_of lookups records =
      let rows = sent_rows E.base E.base_eq traces lookups in
      let d = key_denominator E challenges in
      let high = length-sent_rows E.base E.base_eq traces lookups in
      let all : slice_range rows 0 (height_of traces) ≡ rows = take_all (height_of traces - 0) rows (omega (arith, high)) in
      let faults = faults_of_all E d rows (height_of traces) high in
      record {
        made = λ m s made. plain_answer laws traces challenges lookups records m (terminal_if_any lookups s) (made.0 ∙ ap (plain_matrix E d lookups) all) (terminal_is rows lookups s (made.1 ∙ ap (plain_terminal E d) all)) (sym faults ∙ made.2);
        refused = λ e refused. elim refused [
          | inl memory ↦ inl memory
          | inr fault ↦ inr (ap (λ fs. slice_get fs 0) (sym faults) ∙ fault)
        ];
      }
    where
      terminal_is : (rows : List (List (Sent F))) (ls : List (Lookup F)) (s : K) → s ≡ plain_terminal E (key_denominator E challenges) rows → terminal_if_any ls s ≡ plain_terminal_of E (key_denominator E challenges) ls rows
      terminal_is rows [] s is = refl
      terminal_is rows (l ∷ ls) s is = λ i. Some (record { 0 = is i })

pub ranges_join_of : {F K : Type 0} {E : Extension F K} → IsLawful E → RangesJoin E
ranges_join_of laws = record {
  neighbours = λ traces lookups challenges first middle end. neighbours_of laws traces challenges lookups first middle end;
  all_rows = λ traces lookups challenges. all_rows_of laws traces challenges lookups;
}
