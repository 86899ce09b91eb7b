-- The numbers of all words of a row.
use Rattle.std.specs.Prelude.{ℕ, List, map, unwrap_or}
use Rattle.field_words.specs.Words.{number_of}

-- the number of each word, and 0 for a word that writes none
abbrev pub numbers_or_zeros : ℕ → List (List ℕ) → List ℕ
numbers_or_zeros bound words = map (λ word. unwrap_or (number_of bound word) 0) words
