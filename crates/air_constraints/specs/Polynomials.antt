-- Polynomials in the cells of a window.
use Rattle.std.specs.Prelude.{List, [], ◌∷◌}
use Rattle.field.specs.Ring.{Ring}
use Rattle.air_expressions.specs.declared.variable.SymbolicVariable.{SymbolicVariable}
use Rattle.air_expressions.specs.Meaning.{variable_value}
use Rattle.air_expressions.specs.Window.{Window}
use Rattle.air_constraints.specs.declared.term.Term.{Term}

module _ {F : Type 0} (R : Ring F) (w : Window F) where
  -- the product of cells at a window
  abbrev pub product_at : List (SymbolicVariable F) → F
  product_at [] = R.one
  product_at (v ∷ vs) = R.mul (variable_value R w v) (product_at vs)

  -- the value of a term: its coefficient times its cells
  abbrev pub term_at : Term F → F
  term_at t = R.mul t.coefficient (product_at t.cells.items)

  -- the value of a sum of terms
  abbrev pub sum_at : List (Term F) → F
  sum_at [] = R.zero
  sum_at (t ∷ ts) = R.add (term_at t) (sum_at ts)
