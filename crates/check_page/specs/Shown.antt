-- Bytes and numbers as they are shown.
use Rattle.std.specs.Prelude.{◌%◌, ◌&&◌, ◌==◌, ◌||◌, ◌++◌, ℕ, List, [], ◌∷◌, codes, length, nat_lt, if◌then◌else◌}

-- a byte of a file or of its name as it is shown: one below 32, and 127, as a question mark
abbrev pub shown_byte : ℕ → ℕ
shown_byte byte = if (nat_lt byte 32 || (byte == 127)) then 63 else byte

-- what is between a digit and the so many that follow: a comma where these are threes
abbrev pub comma_before : ℕ → List ℕ
comma_before count = if (nat_lt 0 count && (count % 3 == 0)) then codes "," else []

-- digits with a comma between each three of them, counted from the end
abbrev pub in_threes : List ℕ → List ℕ
in_threes [] = []
in_threes (digit ∷ digits) = digit ∷ (comma_before (length digits) ++ in_threes digits)
