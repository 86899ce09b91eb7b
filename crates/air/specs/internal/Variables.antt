-- Lists of variables for the cells of a row, one after the other.
use Rattle.std.specs.Prelude.{◌≡◌, ℕ, ◌+◌, ◌*◌, List, [], ◌∷◌, length}
use Rattle.matrix.specs.Matrix.{Matrix, row}

-- the variables of one entry with the indices from i upwards
abbrev pub AreVariables : {V E : Type 0} → (V → E) → (V → ℕ) → E → ℕ → List V → Type 0
AreVariables entry_of index_of entry i [] = Unit {0}
AreVariables entry_of index_of entry i (v ∷ vs) =
    (entry_of v ≡ entry) × (index_of v ≡ i) × AreVariables entry_of index_of entry (i + 1) vs

-- as many variables of one entry as the width, with the indices from 0 upwards
pub record IsVariableRow {V E : Type 0} (entry_of : V → E) (index_of : V → ℕ) (entry : E) (width : ℕ) (variables : List V) : Type 0 where
  pub len : length variables ≡ width
  pub indices : AreVariables entry_of index_of entry 0 variables

-- two rows of variables, each row of one entry
pub record IsVariableMatrix {V E : Type 0} (entry_of : V → E) (index_of : V → ℕ) (current next : E) (width : ℕ) (m : Matrix V) : Type 0 where
  pub two_rows : length m.values ≡ 2 * m.width
  pub current_row : IsVariableRow entry_of index_of current width (row m 0)
  pub next_row : IsVariableRow entry_of index_of next width (row m 1)
