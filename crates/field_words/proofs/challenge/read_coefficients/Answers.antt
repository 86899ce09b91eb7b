use Rattle.std.proofs.Common.{◌≡◌, ◌<◌, ◌+◌, ◌++◌, ◌∷◌, ◌==◌, [], ℕ, List, None, Some, ap, arith, length, map, refl, of_calls, rules, set, sym, take, take_all, tests, ◌∙◌}
use Rattle.std.specs.List.{slice_split}
use Rattle.std.proofs.lemmas.Iterator.Splits.{YieldsList-from_slice_split}
use Rattle.std.proofs.lemmas.List.{append_assoc, length-append, length-take-le, length_push, map_push, take_more_set}
use Rattle.list_laws.proofs.Images.{same_length}
use Rattle.field_words.specs.Words.{number_of, number_bound}
use Rattle.field_words.proofs.PartLaws.{Gives-end, Gives-more, Gives-start}
use Rattle.field_words.proofs.challenge.read_coefficients.Goals as goal

-- a part that is no number is none of these
no_number : (bound : ℕ) (came rest : List (List ℕ)) (part : List ℕ) (numbers : List ℕ) → number_of bound part ≡ None → map (number_of bound) (came ++ part ∷ rest) ≡ map Some numbers → ⊥
no_number bound [] rest part [] none writes = cc
no_number bound [] rest part (n ∷ numbers) none writes = cc
no_number bound (word ∷ came) rest part [] none writes = cc
no_number bound (word ∷ came) rest part (n ∷ numbers) none writes = no_number bound came rest part numbers none cc

-- one more number
one_more : (bound : ℕ) (came : List (List ℕ)) (part items : List ℕ) (i n : ℕ) → i < length items → map (number_of bound) came ≡ map Some (take i items) → number_of bound part ≡ Some n
    → map (number_of bound) (came ++ part ∷ []) ≡ map Some (take (i + 1) (set items i n))
one_more bound came part items i n within before writes =
    map_push (number_of bound) came part ∙ (λ j. before j ++ writes j ∷ []) ∙ sym (map_push Some (take i items) n) ∙ ap (map Some) (sym (take_more_set items i n within))

-- as many parts came as numbers were read
as_many : (bound : ℕ) (came : List (List ℕ)) (items : List ℕ) (i : ℕ) → i < length items + 1 → map (number_of bound) came ≡ map Some (take i items) → length came ≡ i
as_many bound came items i within before = same_length (number_of bound) Some came (take i items) before ∙ length-take-le i items (omega (arith, within))

pub loop-place-init : goal.loop-place-init
loop-place-init c =
    let split = c.split-parts.ensures in
    (search of_calls, tt, [], Gives-start _ _ c.split-parts.result _ (YieldsList-from_slice_split _ (λ byte. byte == 44) c.args.word.now split.rest split.done split.closure (λ x r q k. search (rules, tests))), refl)

pub loop-place-preserved : goal.loop-place-preserved
loop-place-preserved c =
    let given = c.loop-place.invariant in
    let part = c.in-Some.part in
    let writes = sym c.number.ensures ∙ c.in-Some-number.is in (
      given.0,
      tt,
      given.2 ++ part.now ∷ [],
      Gives-more _ _ _ c.next.new.self part given.2 _ given.3 c.in-Some.ensures.steps,
      one_more (number_bound c.args.bound) given.2 part.now c.loop-place.numbers c.loop-place.place-index c.in-Some-number.value (omega arith) given.4 writes,
    )

pub returns-in_default-clause-refused : goal.returns-in_default-clause-refused
returns-in_default-clause-refused c = λ same others long writes.
    let given = c.loop-place.invariant in
    let all = Gives-end _ _ _ _ _ _ given.3 c.in_default.ensures.steps in
    let few = as_many (number_bound c.args.bound) given.2 c.loop-place.numbers c.loop-place.place-index (omega arith) given.4 in
    let many : length (slice_split (λ byte. byte == 44) c.args.word.now) ≡ length others = same_length _ Some _ others writes in
    omega (arith, ap length all)

pub returns-in_default-number-clause-refused : goal.returns-in_default-number-clause-refused
returns-in_default-number-clause-refused c = λ same others long writes.
    let given = c.loop-place.invariant in
    let bound : ℕ = number_bound c.args.bound in
    let part = c.in-Some.part in
    let more = Gives-more _ _ _ c.next.new.self part given.2 _ given.3 c.in-Some.ensures.steps in
    no_number bound given.2 more.rest part.now others (sym c.number.ensures ∙ c.in_default-number.is) (ap (map (number_of bound)) (sym (append_assoc given.2 (part.now ∷ []) more.rest) ∙ more.whole) ∙ writes)

pub returns-in-None-clause-read : goal.returns-in-None-clause-read
returns-in-None-clause-read c = λ same.
    let given = c.loop-place.invariant in
    let all = Gives-end _ _ _ _ _ _ given.3 c.in-None.ensures.steps in
    ap (map (number_of (number_bound c.args.bound))) (sym all) ∙ given.4 ∙ ap (map Some) (take_all c.loop-place.place-index c.loop-place.numbers (omega arith))

pub returns-in-Some-next-clause-refused : goal.returns-in-Some-next-clause-refused
returns-in-Some-next-clause-refused c = λ same others long writes.
    let given = c.loop-place.invariant in
    let more = Gives-more _ _ _ c.next-2.new.self c.in-Some-next.field-0 given.2 _ given.3 c.in-Some-next.ensures.steps in
    let came = as_many (number_bound c.args.bound) given.2 c.loop-place.numbers c.loop-place.place-index (omega arith) given.4 in
    let many : length (slice_split (λ byte. byte == 44) c.args.word.now) ≡ length others = same_length _ Some _ others writes in
    omega (arith, ap length more.whole, length-append (given.2 ++ c.in-Some-next.field-0.now ∷ []) more.rest, length_push given.2 c.in-Some-next.field-0.now)
