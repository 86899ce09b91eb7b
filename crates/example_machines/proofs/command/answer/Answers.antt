use Rattle.std.proofs.Common.{◌≢◌, ℕ, All, List, length, refl, sym, subst, arith, ◌∙◌}
use Rattle.std.proofs.lemmas.List.{length-map}
use Rattle.std.proofs.lemmas.Result.{err_from_is_err_and}
use Rattle.std.specs.String.{string_bytes}
use Rattle.field_list.specs.Offers.{names_of}
use Rattle.example_machines.proofs.AnswerLaws.{four_words, holds_of_same, out_of_memory, over_field, unknown_field, unknown_machine, usage}
use Rattle.example_machines.proofs.command.answer.Goals.{in_default-via-then-words-lt4, in_default-via-else-words-lt4+else-words-lt5}
use Rattle.example_machines.proofs.command.answer.Goals as goal

pub returns-in_default : goal.returns-in_default
returns-in_default g c =
    let other : length c.args.words.now ≢ 4 =
    elim c.in_default.branch [
      | in_default-via-then-words-lt4 w ↦ λ same. grind (arith, same)
      | in_default-via-else-words-lt4+else-words-lt5 w ↦ λ same. grind (arith, same)
    ] in
    usage _ _ (g.R.Read.remaining c.args.input.now) (λ four. other (sym (length-map c.args.words.now string_bytes) ∙ four))

pub returns-in_err-from_str : goal.returns-in_err-from_str
returns-in_err-from_str g c =
    let p = err_from_is_err_and c.from_residual.result c.from_residual.ensures.1 in
    let four = four_words c.args.words.now _ _ _ _ c.in-len4.len_at_least c.in-len4.len_below c.machine-item.is c.field-item.is c.alpha-item.is c.beta-item.is in
    out_of_memory _ _ _ _ _ _ four (g.R.Read.remaining c.args.input.now) c.from_residual.result (rw (p.1, p.2) refl)

pub returns-in_default-from_name : goal.returns-in_default-from_name
returns-in_default-from_name g c =
    let four = four_words c.args.words.now _ _ _ _ c.in-len4.len_at_least c.in-len4.len_below c.machine-item.is c.field-item.is c.alpha-item.is c.beta-item.is in
    unknown_machine _ _ _ _ _ _ four (g.R.Read.remaining c.args.input.now) _ (λ machine named. c.in_default-from_name.ensures machine (c.as_str.ensures.value ∙ named)) (c.in_ok-from_str.ensures.ok ∙ c.as_str-in_default-from_name.ensures.value)

pub returns-in-Some-over : goal.returns-in-Some-over
returns-in-Some-over g c =
    let four = four_words c.args.words.now _ _ _ _ c.in-len4.len_at_least c.in-len4.len_below c.machine-item.is c.field-item.is c.alpha-item.is c.beta-item.is in
    over_field _ _ _ _ _ _ four c.in-Some.machine (sym c.as_str.ensures.value ∙ c.in-Some.ensures) (g.R.Read.remaining c.args.input.now) c.in-Some-over.answer
    (holds_of_same _ _ _ _ c.as_str-2.ensures.value c.in-Some-over.ensures)

pub returns-in_err-from_str-in-None : goal.returns-in_err-from_str-in-None
returns-in_err-from_str-in-None g c =
    let p = err_from_is_err_and c.from_residual-in_err-from_str-in-None.result c.from_residual-in_err-from_str-in-None.ensures.1 in
    let four = four_words c.args.words.now _ _ _ _ c.in-len4.len_at_least c.in-len4.len_below c.machine-item.is c.field-item.is c.alpha-item.is c.beta-item.is in
    out_of_memory _ _ _ _ _ _ four (g.R.Read.remaining c.args.input.now) c.from_residual-in_err-from_str-in-None.result (rw (p.1, p.2) refl)

pub returns-in_ok-from_str-in-None : goal.returns-in_ok-from_str-in-None
returns-in_ok-from_str-in-None g c =
    let four = four_words c.args.words.now _ _ _ _ c.in-len4.len_at_least c.in-len4.len_below c.machine-item.is c.field-item.is c.alpha-item.is c.beta-item.is in
    let none = subst (λ (name : List ℕ). All (λ other. other ≢ name) (names_of g.L.FieldList.offers)) c.as_str-2.ensures.value c.in-None.ensures in
    unknown_field _ _ _ _ _ _ four c.in-Some.machine (sym c.as_str.ensures.value ∙ c.in-Some.ensures) (g.R.Read.remaining c.args.input.now) _ none (c.in_ok-from_str-in-None.ensures.ok ∙ c.as_str-in-None.ensures.value)
