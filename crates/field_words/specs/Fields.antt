-- The fields that a run works over.
use Rattle.std.specs.Prelude.{ℕ, Bool, List}
use Rattle.field.specs.Extension.{Extension, extension}
use Rattle.field.specs.Ring.{Ring}
use Rattle.field_words.specs.Words.{number_bound}

-- The fields of a run: the field of the rows and the field of the challenges, their characteristic,
-- the bound of the numbers in a row, which words are challenges, and how cells and values of rows are
-- printed.
pub record Fields (F K : Type 0) : Type 1 where
  pub extension : Extension F K
  pub characteristic : ℕ
  pub bound : ℕ
  pub written : List ℕ → K → Type 0
  pub text : K → List ℕ
  pub base_text : F → List ℕ

-- the fields of a run, from the members of their traits: the numbers of a row are below the characteristic, and below 2^64
abbrev pub run_fields : {F K : Type 0} → Ring F → (F → F → Bool) → ℕ → Ring K → (K → K → Bool) → (F → K) → (K → K) → (List ℕ → K → Type 0) → (K → List ℕ) → (F → List ℕ) → Fields F K
run_fields base base_eq characteristic ring eq embed inverse written text base_text = record {
  extension = extension base base_eq ring eq embed inverse;
  characteristic = characteristic;
  bound = number_bound characteristic;
  written = written;
  text = text;
  base_text = base_text;
}
