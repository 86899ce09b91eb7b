-- Rows of a range of an auxiliary trace: alone, and joined to those before.
use Rattle.std.proofs.Common.{◌≡◌, ℕ, ◌+◌, ◌-◌, ◌*◌, ◌<◌, ◌≤◌, List, [], ◌∷◌, ◌++◌, length, map, take, drop, get_or, slice_range, sym, ap, subst, ◌∙◌, arith}
use Rattle.std.proofs.Math.Seq.{take-add}
use Rattle.std.proofs.lemmas.Grind.{flat_map-append}
use Rattle.std.proofs.lemmas.List.{get_or-drop, get_or-take, length-drop, length-map, length-take, take-take}
use Rattle.std.specs.List.{flat_map, range_with_len}
use Rattle.field.specs.Extension.{Extension, IsLawful}
use Rattle.field.specs.Ring.{Ring}
use Rattle.field.specs.Sums.{sum_in}
use Rattle.list_laws.proofs.Parts.{length_rows, row_of_parts, same_parts}
use Rattle.lookup_generation.proofs.ProgressLaws.{HasCells-more, row_fractions}
use Rattle.lookup_generation.proofs.RangeFaults.{none_joined}
use Rattle.lookup_generation.proofs.RangeLists.{joined_parts, later_parts}
use Rattle.lookup_generation.specs.Ranges.{faults_between, shifted_matrix, shifted_row}
use Rattle.lookup_generation.specs.internal.Progress.{HasCells, HasRows}
use Rattle.lookup_model.proofs.Lookups.PlainResults.{height_of}
use Rattle.lookup_model.proofs.Lookups.Terminals.{plain_terminal-sum}
use Rattle.lookup_model.proofs.SumLaws.{sum_in-append}
use Rattle.lookup_model.specs.Message.{Key}
use Rattle.lookup_model.specs.Plain.{plain_accumulator, plain_cells, plain_fraction, plain_row, plain_terminal}
use Rattle.lookup_model.specs.Sent.{Sent}
use Rattle.matrix.specs.Matrix.{Matrix, row}

module _ {F K : Type 0} {E : Extension F K} (laws : IsLawful E) (denominator : Key F → K) (rows : List (List (Sent F))) where
  fractions : List (Sent F) → List K
  fractions sents = map (plain_fraction E denominator) sents

  -- the fractions of a row, counted from an earlier one
  fractions_from : (origin r : ℕ) → origin ≤ r → row_fractions E denominator (drop origin rows) (r - origin) ≡ row_fractions E denominator rows r
  fractions_from origin r le =
      let here : origin + (r - origin) ≡ r = omega (arith, le) in
      ap (map (plain_fraction E denominator)) (get_or-drop origin rows (r - origin) [] ∙ ap (λ n. get_or rows n []) here)

  -- cells from an earlier row on go on by a row
  pub cells_more : (origin first index : ℕ) (before after more : List K) (accumulator next : K) → origin ≤ first → first + index < length rows → more ≡ row_fractions E denominator rows (first + index) → after ≡ before ++ accumulator ∷ more → next ≡ E.ring.add accumulator (sum_in E.ring more)
      → HasCells E denominator (drop origin rows) (first + index - origin) before accumulator → HasCells E denominator (drop origin rows) (first + (index + 1) - origin) after next
  cells_more origin first index before after more accumulator next le lt is after_is next_is so_far =
      let r = first + index in
      let one_more : (r - origin) + 1 ≡ first + (index + 1) - origin = omega (arith, le) in
      subst (λ k. HasCells E denominator (drop origin rows) k after next) one_more
      (HasCells-more laws denominator (drop origin rows) (r - origin) before after more accumulator next (omega (arith, length-drop origin rows, le, lt)) (is ∙ sym (fractions_from origin r (omega (arith, le)))) after_is next_is so_far)

  -- a row of the first ones is the same row of all
  pub plain_row-take : (n k : ℕ) → k < n → plain_row E denominator (take n rows) k ≡ plain_row E denominator rows k
  plain_row-take n k lt =
      let before : take k (take n rows) ≡ take k rows = take-take k n rows (omega (arith, lt)) in
      let here : get_or (take n rows) k [] ≡ get_or rows k [] = get_or-take n rows k [] lt in
      λ i. sum_in E.ring (flat_map (λ r. map (plain_fraction E denominator) r) (before i)) ∷ map (plain_fraction E denominator) (here i)

  -- the cells of the first n rows are those of these rows alone
  pub cells_alone : (n : ℕ) (cells : List K) (accumulator : K) → n ≤ length rows → HasCells E denominator rows n cells accumulator → cells ≡ plain_cells E denominator (take n rows)
  cells_alone n cells accumulator within has =
      let many : length (take n rows) ≡ n = length-take n rows ∙ omega (arith, within) in
      has.cells_are
      ∙ sym (same_parts (plain_row E denominator (take n rows)) (plain_row E denominator rows) 0 n (λ k lt. plain_row-take n k (omega (arith, lt))))
      ∙ ap (λ m. flat_map (plain_row E denominator (take n rows)) (range_with_len 0 m)) (sym many)

  -- and so is the accumulator after them
  pub sum_alone : (n : ℕ) (cells : List K) (accumulator : K) → HasCells E denominator rows n cells accumulator → accumulator ≡ plain_terminal E denominator (take n rows)
  sum_alone n cells accumulator has = has.accumulator_is ∙ sym (plain_terminal-sum laws denominator (take n rows))

  -- an accumulator is that of an earlier row, and what is added from there on
  accumulator_joined : (a k : ℕ) → plain_accumulator E denominator rows (a + k) ≡ E.ring.add (plain_accumulator E denominator rows a) (plain_accumulator E denominator (drop a rows) k)
  accumulator_joined a k =
      let f = λ (r : List (Sent F)). map (plain_fraction E denominator) r in
      ap (λ t. sum_in E.ring (flat_map f t)) (take-add a k rows)
      ∙ ap (sum_in E.ring) (flat_map-append f (take a rows) (take k (drop a rows)))
      ∙ sum_in-append laws.ring (flat_map f (take a rows)) (flat_map f (take k (drop a rows)))

  -- a row is that of the rest from an earlier row on, shifted by the accumulator there
  row_joined : (a k : ℕ) → plain_row E denominator rows (a + k) ≡ shifted_row E.ring (plain_accumulator E denominator rows a) (plain_row E denominator (drop a rows) k)
  row_joined a k =
      λ i. accumulator_joined a k i ∷ map (plain_fraction E denominator) (sym (get_or-drop a rows k []) i)

-- a matrix that is made row by row, shifted
shifted_parts : {K : Type 0} (S : Ring K) (offset : K) (f : ℕ → List K) (n m : ℕ) → ((r : ℕ) → r < n → length (f r) ≡ m + 1)
    → (shifted_matrix S offset (record { values = flat_map f (range_with_len 0 n); width = m + 1 })).values ≡ flat_map (λ r. shifted_row S offset (f r)) (range_with_len 0 n)
shifted_parts S offset f n m wide =
    let values = flat_map f (range_with_len 0 n) in
    let matrix : Matrix _ = record { values = values; width = m + 1 } in
    let g = λ (r : ℕ). shifted_row S offset (row matrix r) in
    let many : length values ≡ n * (m + 1) = length_rows f (m + 1) 0 n (λ r lt. wide r (omega (arith, lt))) in
    ap (λ h. flat_map g (range_with_len 0 h)) (height_of values n m many)
    ∙ same_parts g (λ r. shifted_row S offset (f r)) 0 n (λ r lt. ap (shifted_row S offset) (row_of_parts f (m + 1) n r wide (omega (arith, lt))))

-- rows that were made have the cells of whole rows
pub length-made : {F K : Type 0} (E : Extension F K) (denominator : Key F → K) (rows : List (List (Sent F))) (m : ℕ) → ((r : ℕ) → r < length rows → length (get_or rows r []) ≡ m) → (n : ℕ) (cells : List K) (accumulator : K) → n ≤ length rows → HasRows E denominator rows n cells accumulator → length cells ≡ n * (m + 1)
length-made E denominator rows m wide n cells accumulator within has =
    ap length has.made.cells_are
    ∙ length_rows (plain_row E denominator rows) (m + 1) 0 n (λ r lt. omega (arith, length-map (get_or rows r []) (plain_fraction E denominator), wide r (omega (arith, lt, within))))

module _ {F K : Type 0} {E : Extension F K} (laws : IsLawful E) (denominator : Key F → K) (rows : List (List (Sent F))) (m : ℕ) (wide : (r : ℕ) → r < length rows → length (get_or rows r []) ≡ m) (first end : ℕ) (from : first ≤ end) (up_to : end ≤ length rows) where
  abbrev pub n : ℕ
  n = end - first

  abbrev pub part : List (List (Sent F))
  part = take (end - first) (drop first rows)

  many_rows : length part ≡ n
  many_rows = length-take (end - first) (drop first rows) ∙ omega (arith, length-drop first rows, from, up_to)

  wide_row : (k : ℕ) → k < n → length (plain_row E denominator part k) ≡ m + 1
  wide_row k lt =
      let here : length (get_or part k []) ≡ m =
      ap length (get_or-take (end - first) (drop first rows) k [] lt ∙ get_or-drop first rows k [])
      ∙ wide (first + k) (omega (arith, lt, from, up_to)) in
      omega (arith, length-map (get_or part k []) (plain_fraction E denominator), here)

  -- the rows of a range are those of the range alone, shifted by the accumulator of the first one
  pub range_shifted : flat_map (plain_row E denominator rows) (range_with_len first n) ≡ (shifted_matrix E.ring (plain_accumulator E denominator rows first) (record { values = plain_cells E denominator part; width = m + 1 })).values
  range_shifted =
      let offset = plain_accumulator E denominator rows first in
      ap (λ a. flat_map (plain_row E denominator rows) (range_with_len a n)) (omega arith)
      ∙ later_parts (plain_row E denominator rows) first 0 n
      ∙ same_parts (λ k. plain_row E denominator rows (first + k)) (λ k. shifted_row E.ring offset (plain_row E denominator part k)) 0 n (λ k lt.
      row_joined laws denominator rows first k ∙ ap (shifted_row E.ring offset) (sym (plain_row-take laws denominator (drop first rows) n k (omega (arith, lt)))))
      ∙ sym (shifted_parts E.ring offset (plain_row E denominator part) n m wide_row)
      ∙ ap (λ h. (shifted_matrix E.ring offset (record { values = flat_map (plain_row E denominator part) (range_with_len 0 h); width = m + 1 })).values) (sym many_rows)

  -- Rows that were made go on by a range that was made alone, shifted by the accumulator so far.
  pub joined : (cells : List K) (accumulator next : K) → HasRows E denominator rows first cells accumulator → faults_between E denominator rows first end ≡ [] → next ≡ E.ring.add accumulator (plain_terminal E denominator (slice_range rows first end))
      → HasRows E denominator rows end (cells ++ (shifted_matrix E.ring accumulator (record { values = plain_cells E denominator (slice_range rows first end); width = m + 1 })).values) next
  joined cells accumulator next has none next_is =
      let whole : first + (end - first) ≡ end = omega (arith, from) in
      let all = plain_row E denominator rows in
      let sum : plain_terminal E denominator part ≡ plain_accumulator E denominator (drop first rows) n = plain_terminal-sum laws denominator part in
      record {
        made = record {
          cells_are =
              (λ i. has.made.cells_are i ++ (shifted_matrix E.ring (has.made.accumulator_is i) (record { values = plain_cells E denominator part; width = m + 1 })).values)
              ∙ ap (λ t. flat_map all (range_with_len 0 first) ++ t) (sym range_shifted ∙ ap (λ a. flat_map all (range_with_len a n)) (omega arith))
              ∙ sym (joined_parts all 0 first n)
              ∙ ap (λ k. flat_map all (range_with_len 0 k)) whole;
          accumulator_is =
              next_is
              ∙ (λ i. E.ring.add (has.made.accumulator_is i) (sum i))
              ∙ sym (accumulator_joined laws denominator rows first n)
              ∙ ap (plain_accumulator E denominator rows) whole;
        };
        faultless = none_joined E denominator rows first end from up_to has.faultless none;
      }
