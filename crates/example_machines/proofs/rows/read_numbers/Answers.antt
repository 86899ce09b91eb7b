use Rattle.std.proofs.Common.{◌≡◌, ◌<◌, ◌+◌, ◌%◌, ◌⊎◌, ◌==◌, ℕ, List, Some, None, length, map, get_or, slice_get, inl, inr, ap, arith, refl, rules, subst, sym, tests, ◌∙◌}
use Rattle.std.specs.List.{flat_map}
use Rattle.std.proofs.Math.Nat.{add-mod_right}
use Rattle.std.proofs.lemmas.Iterator.Consumers.{YieldsList-end, YieldsList-turn}
use Rattle.std.proofs.lemmas.List.{length-map, length_push, map_push}
use Rattle.std.proofs.lemmas.Option.{slice_get_read}
use Rattle.std.proofs.lemmas.Result.{err_from_is_err_and}
use Rattle.example_machines.specs.Input.{NoLineRefusedBefore, line_refusal}
use Rattle.example_machines.specs.Words.{lines_of, words_of}
use Rattle.field_words.specs.Words.{number_of, number_bound}
use Rattle.example_machines.proofs.InputLaws.{NoLineRefusedBefore-more, length-lines_of, written-more}
use Rattle.field_words.proofs.PartLaws.{split-parts}
use Rattle.example_machines.proofs.rows.read_numbers.Goals as goal

-- a whole number of rows stays one
kept : (old new columns : ℕ) → (new ≡ old) ⊎ (new ≡ old + columns) → old % columns ≡ 0 → new % columns ≡ 0
kept old new columns (inl same) whole = ap (λ n. n % columns) same ∙ whole
kept old new columns (inr more) whole = ap (λ n. n % columns) more ∙ add-mod_right old columns ∙ whole

-- a line that is an element of a list stands there
stands : (lines : List (List ℕ)) (i : ℕ) (line : List ℕ) → (i < length lines) × (line ≡ get_or lines i line) → slice_get lines i ≡ Some line
stands lines i line there = slice_get_read lines (length lines) i line refl there.0 there.1

pub loop-words-init : goal.loop-words-init
unfolding lines_of
loop-words-init c =
    let split = c.split-words-items.ensures in
    record {
      lines = split-parts _ (λ byte. byte == 10) c.args.text.now c.into_iter-words-iterator.ensures.into_iter_gives split.rest split.done split.closure (λ x r q k. search (rules, tests));
      whole_rows = search rules;
      counted = refl;
      none_refused = λ i less. absurd (omega arith);
      written = ap (map Some) (sym c.new-numbers.ensures.items);
    }

pub overflow_add-line : goal.overflow_add-line
overflow_add-line c =
    let turn = YieldsList-turn c.loop-words.invariant.lines c.loop-words.yielded _ c.loop-words.yielded_by _ _ c.in-Some.words c.in-Some.is c.next.ensures.steps in
    let within = turn.0 in
    let most = length-lines_of c.args.text.now in
    omega arith

pub loop-words-preserved : goal.loop-words-preserved
loop-words-preserved c =
    let bound : ℕ = number_bound c.args.bound in
    let lines = c.loop-words.yielded in
    let turn = stands _ _ _ (YieldsList-turn c.loop-words.invariant.lines lines _ c.loop-words.yielded_by _ _ c.in-Some.words c.in-Some.is c.next.ensures.steps) in
    let added = c.in_ok-push_line.ensures.cases in
    let good : line_refusal c.args.columns bound (length lines + 1) c.in-Some.words.now ≡ None = subst (λ n. line_refusal c.args.columns bound (n + 1) c.in-Some.words.now ≡ None) c.loop-words.invariant.counted added.0 in
    record {
      lines = c.loop-words.invariant.lines;
      whole_rows = kept _ _ c.args.columns c.in_ok-push_line.ensures.whole_row c.loop-words.invariant.whole_rows;
      counted = omega (arith, length_push lines c.in-Some.words);
      none_refused = subst (NoLineRefusedBefore c.args.columns bound c.args.text.now) (sym (length_push lines c.in-Some.words)) (NoLineRefusedBefore-more c.args.columns bound c.args.text.now (length lines) c.in-Some.words.now c.loop-words.invariant.none_refused turn good);
      written = ap (λ (ls : List (List ℕ)). map (number_of bound) (flat_map words_of ls)) (map_push (λ line. line.now) lines c.in-Some.words) ∙ written-more bound (map (λ line. line.now) lines) c.in-Some.words.now c.loop-words.numbers.items c.push_line.new.numbers.items c.loop-words.invariant.written added.1;
    }

pub returns-in_err-push_line-clause-cases : goal.returns-in_err-push_line-clause-cases
returns-in_err-push_line-clause-cases c =
    let p = err_from_is_err_and c.from_residual.result c.from_residual.ensures.1 in
    let bound : ℕ = number_bound c.args.bound in
    rw (p.1, p.2)
    (elim c.in_err-push_line.ensures.cases [
      | inl memory ↦ inl memory
      | inr refusal ↦
          inr (record {
            before = length c.loop-words.yielded;
            line = c.in-Some.words.now;
            stands = stands _ _ _ (YieldsList-turn c.loop-words.invariant.lines c.loop-words.yielded _ c.loop-words.yielded_by _ _ c.in-Some.words c.in-Some.is c.next.ensures.steps);
            refused = subst (λ n. line_refusal c.args.columns bound (n + 1) c.in-Some.words.now ≡ Some c.in_err-push_line.field-0.0) c.loop-words.invariant.counted refusal;
            first = c.loop-words.invariant.none_refused;
          })
    ])

pub returns-clause-cases : goal.returns-clause-cases
returns-clause-cases c =
    let bound : ℕ = number_bound c.args.bound in
    let all = (YieldsList-end c.loop-words.invariant.lines c.loop-words.yielded _ c.loop-words.yielded_by _ _ c.in-None.is c.next.ensures.steps).0 in
    record {
      none_refused = subst (NoLineRefusedBefore c.args.columns bound c.args.text.now) (sym (length-map c.loop-words.yielded (λ line. line.now)) ∙ ap length all) c.loop-words.invariant.none_refused;
      written = ap (λ (ls : List (List ℕ)). map (number_of bound) (flat_map words_of ls)) (sym all) ∙ c.loop-words.invariant.written;
    }
