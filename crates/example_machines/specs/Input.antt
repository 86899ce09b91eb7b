-- Which texts are inputs with this many columns, the numbers that they give, and why others are
-- refused.
use Rattle.std.specs.Prelude.{◌≡◌, ◌+◌, ◌<◌, ◌==◌, ◌⊎◌, ℕ, List, [], Option, Some, None, length, map, slice_get, if◌then◌else◌}
use Rattle.std.specs.List.{flat_map, list_all}
use Rattle.field.specs.Ring.{Ring, of_nat}
use Rattle.matrix.specs.Matrix.{Matrix}
use Rattle.example_machines.specs.Words.{lines_of, words_of}
use Rattle.field_words.specs.Words.{number_of, is_number}
use Rattle.example_machines.specs.declared.error.RunError.{RunError}
use Rattle.example_machines.specs.declared.error.RunError.TheVariants.{WrongCount, BadNumber, NoRows}

-- why the line with this number, counted from 1, is refused: it has words, but not one for each
-- column; or one of its words is not a number below the bound
unfoldable pub line_refusal : ℕ → ℕ → ℕ → List ℕ → Option RunError
line_refusal columns bound n line =
    if length (words_of line) == 0 then None
    else (if length (words_of line) == columns
    then (if list_all (is_number bound) (words_of line) then None else Some (BadNumber n))
    else Some (WrongCount n columns))

-- all words of a text, line after line
abbrev pub all_words : List ℕ → List (List ℕ)
all_words text = flat_map words_of (lines_of text)

module _ (columns bound : ℕ) (text : List ℕ) where
  -- none of the first n lines is refused
  abbrev pub NoLineRefusedBefore : ℕ → Type 0
  NoLineRefusedBefore n =
      (i : ℕ) → i < n → (line : List ℕ) → slice_get (lines_of text) i ≡ Some line → line_refusal columns bound (i + 1) line ≡ None

  -- no line is refused
  abbrev pub NoLineRefused : Type 0
  NoLineRefused = NoLineRefusedBefore (length (lines_of text))

  -- this is why the first refused line, which has `before` lines in front of it, is refused
  pub record IsFirstLineRefusal (e : RunError) : Type 0 where
    pub before : ℕ
    pub line : List ℕ
    pub stands : slice_get (lines_of text) before ≡ Some line
    pub refused : line_refusal columns bound (before + 1) line ≡ Some e
    pub first : NoLineRefusedBefore before

  -- this is why the text is refused: because of its first refused line, or because it has no words
  abbrev pub IsInputRefusal : RunError → Type 0
  IsInputRefusal e = IsFirstLineRefusal e ⊎ (NoLineRefused × (all_words text ≡ []) × (e ≡ NoRows))

  -- no line is refused, and these are the numbers that the words write, line after line
  pub record AreNumbers (numbers : List ℕ) : Type 0 where
    pub none_refused : NoLineRefused
    pub written : map (number_of bound) (all_words text) ≡ map Some numbers

-- the matrix of the numbers of a text that has words and no refused line: each number as an
-- element, in rows of this many columns
pub record IsInput {F : Type 0} (R : Ring F) (columns bound : ℕ) (text : List ℕ) (m : Matrix F) : Type 0 where
  pub numbers : List ℕ
  pub are_numbers : AreNumbers columns bound text numbers
  pub some : 0 < length numbers
  pub values : m.values ≡ map (of_nat R) numbers
  pub width : m.width ≡ columns
