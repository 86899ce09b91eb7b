use Rattle.std.proofs.Common.{◌≡◌, ◌<◌, length, get_or, take, take_all, ap, arith, sym, ◌∙◌, eqb-true, subst, Some}
use Rattle.std.specs.Str.Parse.{AllDigits, digits_value}
use Rattle.std.proofs.lemmas.Bool.Decides.{nat_tests}
use Rattle.std.proofs.lemmas.Int.Digits.{digits_more, digits_value_more}
use Rattle.std.proofs.lemmas.Str.{digit_value_digit}
use Rattle.field_words.specs.Words.{number_bound}
use Rattle.field_words.proofs.WordLaws.{ascii_digits, number_of-large, number_of-none, number_of-other, number_of-some}
use Rattle.field_words.proofs.challenge.number.Goals as goal

pub returns-then-is_empty : goal.returns-then-is_empty
returns-then-is_empty c =
    let empty : length c.args.word.now ≡ 0 = eqb-true (length c.args.word.now) 0 (sym c.if-is_empty.ensures) in
    sym (number_of-none (number_bound c.args.bound) c.args.word.now (λ n. omega (arith, n.some)))

pub returns-then-not-is_ascii_digit : goal.returns-then-not-is_ascii_digit
returns-then-not-is_ascii_digit c =
    sym (number_of-other (number_bound c.args.bound) c.args.word.now c.loop-byte.byte-index (omega arith) c.if-not-is_ascii_digit.ensures.cases)

pub returns-in_err-checked_mul : goal.returns-in_err-checked_mul
returns-in_err-checked_mul c =
    c.from_residual.ensures ∙ sym (number_of-large (number_bound c.args.bound) c.args.word.now c.loop-byte.byte-index (omega arith) (omega (arith, c.in_err-checked_mul.ensures)))

pub returns-in_err-value : goal.returns-in_err-value
returns-in_err-value c =
    let digit = digit_value_digit (get_or c.args.word.now c.loop-byte.byte-index 0) c.if-not-is_ascii_digit.ensures.cases in
    c.from_residual-in_err-value.ensures ∙ sym (number_of-large (number_bound c.args.bound) c.args.word.now c.loop-byte.byte-index (omega arith) (omega (arith, c.in_err-value.ensures, c.in_ok-checked_mul.ensures, digit)))

pub loop-byte-preserved : goal.loop-byte-preserved
loop-byte-preserved c =
    let within : c.loop-byte.byte-index < length c.args.word.now = omega arith in
    let digit = digit_value_digit (get_or c.args.word.now c.loop-byte.byte-index 0) c.if-not-is_ascii_digit.ensures.cases in
    record {
      digits = digits_more 10 c.args.word.now c.loop-byte.byte-index within c.loop-byte.invariant.digits c.if-not-is_ascii_digit.ensures.bound;
      fits = omega (arith, c.in_ok-value.ensures);
      value = omega (arith, digits_value_more 10 c.args.word.now c.loop-byte.byte-index within, c.in_ok-value.ensures, c.in_ok-checked_mul.ensures, digit);
    }

pub returns-then-from-bound : goal.returns-then-from-bound
returns-then-from-bound c =
    let all : take c.loop-byte.byte-index c.args.word.now ≡ c.args.word.now = take_all c.loop-byte.byte-index c.args.word.now (omega arith) in
    let digits : AllDigits 10 c.args.word.now = subst (AllDigits 10) all c.loop-byte.invariant.digits in
    let value : c.loop-byte.value ≡ digits_value 10 c.args.word.now = c.loop-byte.invariant.value ∙ ap (digits_value 10) all in
    let full : 0 < length c.args.word.now = let test = c.if-is_empty.ensures in grind (arith, nat_tests) in
    ap Some value ∙ sym (number_of-some (number_bound c.args.bound) c.args.word.now (record { some = full; digits = ascii_digits.from c.args.word.now digits; below = omega arith }))

pub returns-else-from-bound : goal.returns-else-from-bound
returns-else-from-bound c =
    let all : take c.loop-byte.byte-index c.args.word.now ≡ c.args.word.now = take_all c.loop-byte.byte-index c.args.word.now (omega arith) in
    let value : c.loop-byte.value ≡ digits_value 10 c.args.word.now = c.loop-byte.invariant.value ∙ ap (digits_value 10) all in
    sym (number_of-none (number_bound c.args.bound) c.args.word.now (λ n. omega (arith, n.below)))
