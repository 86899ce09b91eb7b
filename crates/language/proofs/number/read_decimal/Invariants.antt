use Rattle.std.proofs.Common.{◌≡◌, take}
use Rattle.std.specs.Str.Parse.{AllDigits, digits_value}
use Rattle.language.specs.Numbers.{short_number}
use Rattle.language.proofs.number.read_decimal.Given as goal

abbrev pub invariant-loop-byte : goal.invariant-loop-byte
invariant-loop-byte l = record {
  digits : AllDigits 10 (take l.byte-index l.word);
  value : l.value ≡ short_number (digits_value 10 (take l.byte-index l.word));
}
