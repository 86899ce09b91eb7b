-- Why a line is refused, and what the words of the others write.
use Rattle.std.proofs.Common.{◌≡◌, ◌≢◌, ◌≤◌, ◌+◌, ◌⊎◌, ◌==◌, ℕ, true, false, cond, List, [], ◌∷◌, ◌++◌, Option, Some, None, length, map, refl, ap, inl, inr, arith, sym, ◌∙◌, eq-eqb, ne_eqb, below_more, slice_get}
use Rattle.std.specs.List.{flat_map, list_all}
use Rattle.std.proofs.lemmas.Grind.{flat_map-append}
use Rattle.std.proofs.lemmas.List.{append-nil, map-append, nil_from_length}
use Rattle.std.proofs.lemmas.List.Splits.{length-slice_split}
use Rattle.std.proofs.lemmas.List.Sums.{count_by-le-length}
use Rattle.std.proofs.lemmas.Option.{same_Some}
use Rattle.example_machines.specs.Input.{NoLineRefusedBefore, line_refusal}
use Rattle.example_machines.specs.Words.{lines_of, words_of}
use Rattle.field_words.specs.Words.{is_number, number_of}
use Rattle.example_machines.specs.declared.error.RunError.TheVariants.{WrongCount, BadNumber}
use Rattle.example_machines.specs.internal.Words.{numbers_or_zeros}

-- a text has at most one line more than bytes
pub length-lines_of : (text : List ℕ) → length (lines_of text) ≤ length text + 1
unfolding lines_of
length-lines_of text =
    let lines = length-slice_split (λ byte. byte == 10) text in
    let ends = count_by-le-length (λ byte. byte == 10) text in
    omega arith

-- where all words are numbers, each gives its own
pub numbers-written : (bound : ℕ) (words : List (List ℕ)) → list_all (is_number bound) words ≡ true → map Some (numbers_or_zeros bound words) ≡ map (number_of bound) words
numbers-written bound [] all = refl
numbers-written bound (word ∷ words) all = grind (arith, all, numbers-written bound words)

-- one more line, whose words write the numbers that came
pub written-more : (bound : ℕ) (lines : List (List ℕ)) (line : List ℕ) (old new : List ℕ) → map (number_of bound) (flat_map words_of lines) ≡ map Some old → map Some new ≡ map Some old ++ map (number_of bound) (words_of line)
    → map (number_of bound) (flat_map words_of (lines ++ line ∷ [])) ≡ map Some new
written-more bound lines line old new before added =
    let words = flat_map-append words_of lines (line ∷ []) ∙ ap (λ ws. flat_map words_of lines ++ ws) (append-nil (words_of line)) in
    ap (map (number_of bound)) words ∙ map-append (number_of bound) (flat_map words_of lines) (words_of line) ∙ ap (λ (l : List (Option ℕ)). l ++ map (number_of bound) (words_of line)) before ∙ sym added

-- one more line that is not refused
pub NoLineRefusedBefore-more : (columns bound : ℕ) (text : List ℕ) (n : ℕ) (line : List ℕ) → NoLineRefusedBefore columns bound text n → slice_get (lines_of text) n ≡ Some line → line_refusal columns bound (n + 1) line ≡ None → NoLineRefusedBefore columns bound text (n + 1)
NoLineRefusedBefore-more columns bound text n line before stands good =
    below_more (λ i. (l : List ℕ) → slice_get (lines_of text) i ≡ Some l → line_refusal columns bound (i + 1) l ≡ None) n before
    (λ l found. ap (line_refusal columns bound (n + 1)) (same_Some l line (sym found ∙ stands)) ∙ good)

module _ (columns bound n : ℕ) (line : List ℕ) where
  -- a line with words, but not one a column
  pub refusal-wrong_count : length (words_of line) ≢ 0 → length (words_of line) ≢ columns → line_refusal columns bound n line ≡ Some (WrongCount n columns)
  unfolding line_refusal
  refusal-wrong_count some other = rw (ne_eqb (length (words_of line)) 0 some, ne_eqb (length (words_of line)) columns other)

  -- a line with no words, or with one a column, all of which are numbers
  pub refusal-none : (length (words_of line) ≡ 0) ⊎ (length (words_of line) ≡ columns) → list_all (is_number bound) (words_of line) ≡ true → line_refusal columns bound n line ≡ None
  unfolding line_refusal
  refusal-none (inl empty) all = rw (eq-eqb (length (words_of line)) 0 empty)
  refusal-none (inr same) all = elim (length (words_of line) == 0) as (λ b. cond b None (cond (length (words_of line) == columns) (cond (list_all (is_number bound) (words_of line)) None (Some (BadNumber n))) (Some (WrongCount n columns))) ≡ None) [ true ↦ refl | false ↦ rw (eq-eqb (length (words_of line)) columns same, all) ]

  -- a line with no words, or with one a column, some of which is no number
  pub refusal-bad_number : (length (words_of line) ≡ 0) ⊎ (length (words_of line) ≡ columns) → list_all (is_number bound) (words_of line) ≡ false → line_refusal columns bound n line ≡ Some (BadNumber n)
  unfolding line_refusal
  refusal-bad_number count bad =
      let some : length (words_of line) ≢ 0 = λ empty. let e : true ≡ false = ap (list_all (is_number bound)) (sym (nil_from_length (words_of line) empty)) ∙ bad in cc in
      let same : length (words_of line) ≡ columns = elim count [ inl empty ↦ absurd (some empty) | inr same ↦ same ] in
      rw (ne_eqb (length (words_of line)) 0 some, eq-eqb (length (words_of line)) columns same, bad)
