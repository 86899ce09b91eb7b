use Rattle.std.proofs.Common.{◌≡◌, ◌-◌, ◌⊎◌, ◌++◌, ℕ, List, true, Some, map, length, inl, inr, arith, sym, ◌∙◌, ap, Option, unwrap_or}
use Rattle.std.specs.List.{list_all}
use Rattle.std.proofs.lemmas.List.{length-append, length-map, map-append}
use Rattle.example_machines.specs.Words.{words_of}
use Rattle.field_words.specs.Words.{is_number, number_of, number_bound}
use Rattle.example_machines.specs.internal.Words.{numbers_or_zeros}
use Rattle.example_machines.proofs.InputLaws.{numbers-written, refusal-bad_number, refusal-none, refusal-wrong_count}
use Rattle.example_machines.proofs.rows.push_line.Goals as goal

-- as many numbers come as there are words
added : (old new : List ℕ) (bound : ℕ) (words : List (List ℕ)) → new ≡ old ++ numbers_or_zeros bound words → length new - length old ≡ length words
added old new bound words is = omega (arith, ap length is, length-append old (numbers_or_zeros bound words), length-map words (λ word. unwrap_or (number_of bound word) 0))

-- where all words are numbers, those that came are theirs
all_written : (old new : List ℕ) (bound : ℕ) (words : List (List ℕ)) → new ≡ old ++ numbers_or_zeros bound words → list_all (is_number bound) words ≡ true → map Some new ≡ map Some old ++ map (number_of bound) words
all_written old new bound words is all =
    ap (map Some) is ∙ map-append Some old (numbers_or_zeros bound words) ∙ ap (λ (l : List (Option ℕ)). map Some old ++ l) (numbers-written bound words all)

pub returns-then-count-columns-clause-cases : goal.returns-then-count-columns-clause-cases
returns-then-count-columns-clause-cases c =
    let count = added _ _ _ _ c.in_ok-good.ensures.numbers in
    inr (refusal-wrong_count c.args.columns (number_bound c.args.bound) c.args.line c.args.words.now (λ none. c.if-count-ne0.true (omega arith)) (λ same. c.if-count-columns.true (omega arith)))

pub returns-then-good-clause-cases : goal.returns-then-good-clause-cases
returns-then-good-clause-cases c =
    let numbers = c.in_ok-good.ensures.numbers in
    let all = sym c.in_ok-good.ensures.good ∙ c.if-good.true in
    let count = added _ _ _ _ numbers in
    let size : (length (words_of c.args.words.now) ≡ 0) ⊎ (length (words_of c.args.words.now) ≡ c.args.columns) = elim c.else-count-ne0.either [ inl w ↦ inr (omega arith) | inr w ↦ inl (omega arith) ] in
    (refusal-none c.args.columns (number_bound c.args.bound) c.args.line c.args.words.now size all, all_written _ _ _ _ numbers all)

pub returns-else-good-clause-cases : goal.returns-else-good-clause-cases
returns-else-good-clause-cases c =
    let count = added _ _ _ _ c.in_ok-good.ensures.numbers in
    let size : (length (words_of c.args.words.now) ≡ 0) ⊎ (length (words_of c.args.words.now) ≡ c.args.columns) = elim c.else-count-ne0.either [ inl w ↦ inr (omega arith) | inr w ↦ inl (omega arith) ] in
    inr (refusal-bad_number c.args.columns (number_bound c.args.bound) c.args.line c.args.words.now size (sym c.in_ok-good.ensures.good ∙ c.if-good.false))
