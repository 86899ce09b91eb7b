-- Witnesses: the auxiliary trace and the terminal that a prover provides, and when they are
-- satisfied (LogUp, eprint 2022/1530; the windows are those of the constraints).
use Rattle.std.specs.Prelude.{◌≡◌, ℕ, ◌+◌, ◌-◌, ◌<◌, ◌==◌, Bool, true, false, if◌then◌else◌, List, [], ◌∷◌, Option, None, Some, length, map, slice_index_or}
use Rattle.std.specs.List.{AllByRecursion, flat_map, range_with_len}
use Rattle.std.specs.Option.{is_some}
use Rattle.matrix.specs.Matrix.{IsShaped, Matrix, height, row}
use Rattle.air_expressions.specs.Window.{ExtWindow, ext_window_at}
use Rattle.air.specs.Traces.{AirTraces, height_of}
use Rattle.lookup_model.specs.Constraints.{lookup_constraints}
use Rattle.field.specs.Extension.{Extension}
use Rattle.field.specs.Sums.{sum_in}
use Rattle.lookup_model.specs.Terminals.{terminal_value}
use Rattle.lookup_model.specs.declared.types.Lookup.{Lookup}
use Rattle.lookup_model.specs.declared.types.LookupTerminal.{LookupTerminal}

-- the permutation values of an AIR: its terminal, if it has one
abbrev pub values_of_terminal : {K : Type 0} → Option (LookupTerminal K) → List K
values_of_terminal None = []
values_of_terminal (Some terminal) = terminal.0 ∷ []

module _ {F : Type 0} where
  -- whether an AIR with these lookups has a terminal
  abbrev pub has_terminal : List (Lookup F) → Bool
  has_terminal [] = false
  has_terminal (l ∷ ls) = true

  -- the width of its auxiliary trace
  abbrev pub auxiliary_width : List (Lookup F) → ℕ
  auxiliary_width [] = 0
  auxiliary_width (l ∷ ls) = length (l ∷ ls) + 1

  -- the height of its auxiliary trace, over traces of height h
  abbrev pub auxiliary_height : List (Lookup F) → ℕ → ℕ
  auxiliary_height [] h = 0
  auxiliary_height (l ∷ ls) h = h

module _ {F K : Type 0} where
  -- the window of row r of the traces, with the auxiliary trace, the challenges and the terminal
  abbrev pub witness_window : AirTraces F → List K → Matrix K → Option (LookupTerminal K) → ℕ → ExtWindow F K
  witness_window traces challenges auxiliary terminal r =
      ext_window_at traces.main traces.preprocessed traces.public_values auxiliary challenges (values_of_terminal terminal) r

  -- An auxiliary trace and a terminal have the shape that the lookups ask for: a terminal, one
  -- column more than there are lookups, as many rows as the main trace, whole rows. Without
  -- lookups: no terminal, and no cells.
  pub record HasShape (lookups : List (Lookup F)) (h : ℕ) (auxiliary : Matrix K) (terminal : Option (LookupTerminal K)) : Type 0 where
    pub presence : has_terminal lookups ≡ is_some terminal
    pub width : auxiliary.width ≡ auxiliary_width lookups
    pub high : height auxiliary ≡ auxiliary_height lookups h
    pub whole : IsShaped auxiliary

  -- every constraint is zero on row r
  abbrev pub HoldsOnRow : Extension F K → AirTraces F → List (Lookup F) → List K → Matrix K → Option (LookupTerminal K) → ℕ → Type 0
  HoldsOnRow E traces lookups challenges auxiliary terminal r =
      AllByRecursion (λ constraint. constraint.meaning (witness_window traces challenges auxiliary terminal r) ≡ E.ring.zero) (lookup_constraints E lookups)

  -- A witness is satisfied if it has the shape and every constraint is zero on every row.
  pub record IsSatisfied (E : Extension F K) (traces : AirTraces F) (lookups : List (Lookup F)) (challenges : List K) (auxiliary : Matrix K) (terminal : Option (LookupTerminal K)) : Type 0 where
    pub shape : HasShape lookups (height_of traces) auxiliary terminal
    pub equations : (r : ℕ) → r < height_of traces → HoldsOnRow E traces lookups challenges auxiliary terminal r

  -- The accumulator that the rows before row r lead to: the first cell of row r and, after the last row, the
  -- terminal.
  abbrev pub accumulated : Extension F K → ℕ → Matrix K → Option (LookupTerminal K) → ℕ → K
  accumulated E h auxiliary terminal r = if r == h then terminal_value E.ring terminal else slice_index_or (row auxiliary r) 0 E.ring.zero

  -- the fractions of all lookups on row r: on it, one place further than the column of each
  abbrev pub fraction_cells : Extension F K → List (Lookup F) → Matrix K → ℕ → List K
  fraction_cells E lookups auxiliary r = map (λ lookup. slice_index_or (row auxiliary r) (lookup.column + 1) E.ring.zero) lookups

  -- the sum of the fractions on the rows from `first` up to `end`
  abbrev pub fraction_sum : Extension F K → List (Lookup F) → Matrix K → ℕ → ℕ → K
  fraction_sum E lookups auxiliary first end = sum_in E.ring (flat_map (fraction_cells E lookups auxiliary) (range_with_len first (end - first)))

  -- The rows of a range add up: the fractions on them lead from the accumulator before them to that after them.
  -- Before the first row of the trace it is zero.
  pub record AddUp (E : Extension F K) (lookups : List (Lookup F)) (h : ℕ) (auxiliary : Matrix K) (terminal : Option (LookupTerminal K)) (first end : ℕ) : Type 0 where
    pub starts : first ≡ 0 → accumulated E h auxiliary terminal first ≡ E.ring.zero
    pub adds : accumulated E h auxiliary terminal end ≡ E.ring.add (accumulated E h auxiliary terminal first) (fraction_sum E lookups auxiliary first end)

  -- the terminal is the sum of all fractions; without lookups both are zero
  abbrev pub TerminalIsSum : Extension F K → AirTraces F → List (Lookup F) → Matrix K → Option (LookupTerminal K) → Type 0
  TerminalIsSum E traces lookups auxiliary terminal = terminal_value E.ring terminal ≡ fraction_sum E lookups auxiliary 0 (height_of traces)
