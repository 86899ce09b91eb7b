-- Columns: what expressions and tuples give on some rows of the traces of an AIR.
use Rattle.std.specs.Prelude.{ℕ, List, map}
use Rattle.field.specs.Ring.{Ring}
use Rattle.air_expressions.specs.Meaning.{leaf_value, value_of}
use Rattle.air_expressions.specs.Tree.{Tree}
use Rattle.air_expressions.specs.Window.{Window}
use Rattle.air_expressions.specs.declared.base_expression.BaseLeaf.{BaseLeaf}
use Rattle.air_expressions.specs.declared.base_expression.SymbolicExpression.{SymbolicExpression}
use Rattle.lookup_model.specs.Denominators.{tuple_denominator_over}
use Rattle.lookup_model.specs.Sent.{values}

module _ {F : Type 0} (R : Ring F) where
  -- the values of a leaf on these rows
  abbrev pub leaf_column : (ℕ → Window F) → List ℕ → BaseLeaf F → List F
  leaf_column window rows l = map (λ r. leaf_value R (window r) l) rows

  -- the values of a tree on these rows
  abbrev pub column : (ℕ → Window F) → List ℕ → Tree F → List F
  column window rows t = map (λ r. value_of R (window r) t) rows

  -- the denominator of a tuple at a window
  abbrev pub tuple_denominator_at : {K : Type 0} → Ring K → (F → K) → K → K → Window F → List (SymbolicExpression F) → K
  tuple_denominator_at S embed alpha beta w tuple = tuple_denominator_over S embed alpha beta (values R w tuple)

  -- the denominators of a tuple on these rows
  abbrev pub tuple_denominators : {K : Type 0} → Ring K → (F → K) → (ℕ → Window F) → K → K → List ℕ → List (SymbolicExpression F) → List K
  tuple_denominators S embed window alpha beta rows tuple = map (λ r. tuple_denominator_at S embed alpha beta (window r) tuple) rows
