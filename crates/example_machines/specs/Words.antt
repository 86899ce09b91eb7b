-- The lines of a text, and the words of a line.
use Rattle.std.specs.Prelude.{◌==◌, ◌||◌, ℕ, Bool, List, filter, length, nat_lt}
use Rattle.std.specs.List.{slice_split}

-- the lines of a text: its parts between LFs, one more than there are LFs
unfoldable pub lines_of : List ℕ → List (List ℕ)
lines_of text = slice_split (λ byte. byte == 10) text

-- space, tab and CR
abbrev pub separates_words : ℕ → Bool
separates_words byte = (byte == 32) || (byte == 9) || (byte == 13)

-- whether a part is not empty
abbrev pub has_bytes : List ℕ → Bool
has_bytes part = nat_lt 0 (length part)

-- the words of a line: its nonempty parts between spaces, tabs and CRs
unfoldable pub words_of : List ℕ → List (List ℕ)
words_of line = filter has_bytes (slice_split separates_words line)
