-- The numbers that words write in decimal digits.
use Rattle.std.specs.Prelude.{◌&&◌, ℕ, List, Option, Some, None, length, nat_lt, if◌then◌else◌}
use Rattle.std.specs.Str.{all_ascii_digits}
use Rattle.std.specs.Str.Parse.{digits_value}
use Rattle.language.specs.declared.number.Decimal.{Decimal}
use Rattle.language.specs.declared.number.Decimal.TheVariants.{Value, Large, Other}

-- a number below 2^64
abbrev pub short_number : ℕ → Option ℕ
short_number n = if nat_lt n 18446744073709551616 then Some n else None

-- a number, by whether it is below 2^64
abbrev pub decimal_in : Option ℕ → Decimal
decimal_in None = Large
decimal_in (Some n) = Value n

-- the number that one or more decimal digits write
unfoldable pub decimal_of : List ℕ → Decimal
decimal_of word = if nat_lt 0 (length word) && all_ascii_digits word then decimal_in (short_number (digits_value 10 word)) else Other
