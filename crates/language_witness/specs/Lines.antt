-- The lines of a witness.
use Rattle.std.specs.Prelude.{◌≡◌, ◌++◌, ℕ, All, List, [], Option, None, Some, codes, decimal, length}
use Rattle.std.specs.List.{enumerate_from, flat_map, join_by, range_with_len}
use Rattle.matrix.specs.Matrix.{Matrix, height, row}
use Rattle.lookup_model.specs.Batches.Witnesses.{AirResult, results_of}
use Rattle.lookup_model.specs.declared.types.LookupTerminal.{LookupTerminal}
use Rattle.lookup_model.specs.declared.witness.Witness.{Witness}

module _ {K : Type 0} (text : K → List ℕ) where
  -- the line of a row: its cells, separated by one space
  abbrev pub row_line : List K → List ℕ
  row_line cells = join_by text (codes " ") cells ++ codes "\n"

  -- the line of a terminal, if there is one
  abbrev pub terminal_line : Option (LookupTerminal K) → List ℕ
  terminal_line None = []
  terminal_line (Some terminal) = codes "terminal " ++ (text terminal.0 ++ codes "\n")

  -- the lines of an AIR: its number, the rows of its auxiliary trace, and its terminal
  abbrev pub air_lines : ℕ → Matrix K → Option (LookupTerminal K) → List ℕ
  air_lines air trace terminal =
      codes "air " ++ (decimal air ++ (codes "\n" ++ (flat_map (λ r. row_line (row trace r)) (range_with_len 0 (height trace)) ++ terminal_line terminal)))

  -- the lines of all AIRs of a witness
  abbrev pub witness_lines : List (AirResult K) → List ℕ
  witness_lines witness = flat_map (λ p. air_lines p.0 p.1.0 p.1.1) (enumerate_from 0 witness)

-- a trace without rows has width 0
abbrev pub IsPlainTrace : {K : Type 0} → Matrix K → Type 0
IsPlainTrace m = height m ≡ 0 → m.width ≡ 0

-- there is a terminal, or none, for each auxiliary trace, and traces without rows have width 0
pub record IsPlainlyShaped {K : Type 0} (w : Witness K) : Type 0 where
  pub even : length w.aux.items ≡ length w.terminals.items
  pub plain : All IsPlainTrace w.aux.items

-- the bytes are the lines of this witness, which is plainly shaped
pub record IsTextOf {K : Type 0} (text : K → List ℕ) (bytes : List ℕ) (w : Witness K) : Type 0 where
  pub shaped : IsPlainlyShaped w
  pub lines : bytes ≡ witness_lines text (results_of w)
