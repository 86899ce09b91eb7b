use Rattle.std.proofs.Common.{◌≡◌, ◌<◌, ◌≤◌, ℕ, List, Option, length, take, take_all, ap, arith, eqb-true, subst, sym, ◌∙◌}
use Rattle.std.specs.Str.Parse.{AllDigits, digits_value}
use Rattle.std.proofs.lemmas.Bool.Decides.{nat_tests}
use Rattle.std.proofs.lemmas.Int.Digits.{digits_more, digits_value_more}
use Rattle.language.specs.Numbers.{decimal_in, decimal_of, short_number}
use Rattle.language.proofs.NumberLaws.{decimal_of-digits, decimal_of-empty, decimal_of-other}
use Rattle.language.proofs.number.read_decimal.Goals as goal

pub returns-then-is_empty : goal.returns-then-is_empty
returns-then-is_empty c = sym (decimal_of-empty c.args.word.now (eqb-true (length c.args.word.now) 0 (sym c.if-is_empty.ensures)))

pub returns-then-not-is_ascii_digit : goal.returns-then-not-is_ascii_digit
returns-then-not-is_ascii_digit c =
    sym (decimal_of-other c.args.word.now c.loop-byte.byte-index (omega arith) c.if-not-is_ascii_digit.ensures.cases)

pub loop-byte-preserved : goal.loop-byte-preserved
loop-byte-preserved c =
    let within : c.loop-byte.byte-index < length c.args.word.now = omega arith in
    record {
      digits = digits_more 10 c.args.word.now c.loop-byte.byte-index within c.loop-byte.invariant.digits c.if-not-is_ascii_digit.ensures.bound;
      value = c.more-value.ensures (digits_value 10 (take c.loop-byte.byte-index c.args.word.now)) c.loop-byte.invariant.value ∙ ap short_number (sym (digits_value_more 10 c.args.word.now c.loop-byte.byte-index within));
    }

-- all of a word was read
whole : (word : List ℕ) (i : ℕ) (value : Option ℕ) → 0 < length word → length word ≤ i → AllDigits 10 (take i word) → value ≡ short_number (digits_value 10 (take i word)) → decimal_of word ≡ decimal_in value
whole word i value some end digits is =
    let all : take i word ≡ word = take_all i word end in
    decimal_of-digits word some (subst (AllDigits 10) all digits) ∙ ap (λ ds. decimal_in (short_number (digits_value 10 ds))) (sym all) ∙ ap decimal_in (sym is)

pub returns-in-Some : goal.returns-in-Some
returns-in-Some c =
    let some : 0 < length c.args.word.now = let test = c.if-is_empty.ensures in grind (arith, nat_tests) in
    sym (whole c.args.word.now c.loop-byte.byte-index c.loop-byte.value some (omega arith) c.loop-byte.invariant.digits c.loop-byte.invariant.value ∙ ap decimal_in c.in-Some.is)

pub returns-in-None : goal.returns-in-None
returns-in-None c =
    let some : 0 < length c.args.word.now = let test = c.if-is_empty.ensures in grind (arith, nat_tests) in
    sym (whole c.args.word.now c.loop-byte.byte-index c.loop-byte.value some (omega arith) c.loop-byte.invariant.digits c.loop-byte.invariant.value ∙ ap decimal_in c.in-None.is)
