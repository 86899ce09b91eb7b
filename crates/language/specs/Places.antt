-- Where the bytes of a text stand: its lines, and the characters of a line.
use Rattle.std.specs.Prelude.{◌≡◌, ◌≢◌, ◌==◌, ◌&&◌, ◌||◌, ◌⊎◌, ◌+◌, ◌<◌, ◌≤◌, ℕ, Bool, List, length, take, drop, nat_le, nat_lt, slice_index, if◌then◌else◌}

-- how many bytes the byte-order mark at the front takes
abbrev pub mark_length : List ℕ → ℕ
mark_length text = if nat_le 3 (length text) && ((slice_index text 0 == 239) && ((slice_index text 1 == 187) && (slice_index text 2 == 191))) then 3 else 0

-- the bytes before this one, without the byte-order mark
abbrev pub read_before : List ℕ → ℕ → List ℕ
read_before text at = drop (mark_length text) (take at text)

-- an LF
abbrev pub is_line_end : ℕ → Bool
is_line_end b = b == 10

-- a byte of UTF-8 that begins a character
abbrev pub begins_character : ℕ → Bool
begins_character b = nat_lt b 128 || nat_le 192 b

-- the last line of some bytes begins here: after the last LF, or at the front
pub record BeginsLastLine (bytes : List ℕ) (start : ℕ) : Type 0 where
  pub within : start ≤ length bytes
  pub after : (start ≡ 0) ⊎ ((before : ℕ) × (start ≡ before + 1) × (slice_index bytes before ≡ 10))
  pub last : (i : ℕ) → start ≤ i → i < length bytes → slice_index bytes i ≢ 10
