-- What expressions mean where they are evaluated, and their degrees.
use Rattle.std.specs.Prelude.{◌≡◌, ◌+◌, ◌*◌, ℕ, max, List, map, slice_index_or}
use Rattle.field.specs.Extension.{Extension}
use Rattle.field.specs.Polynomial.{combined}
use Rattle.field.specs.Ring.{Ring, sub_in}
use Rattle.air_expressions.specs.Window.{ExtWindow}
use Rattle.air_expressions.specs.declared.base_expression.SymbolicExpression.{SymbolicExpression}
use Rattle.air_expressions.specs.declared.view.BuilderView.{Ghosts as BuilderView}
use Rattle.lookup_constraints.specs.Asserted.{IsConstraintOn}
use Rattle.lookup_model.specs.Denominators.{column_denominator}
use Rattle.lookup_model.specs.LookupDegree.{expression_degree, tuple_degree}
use Rattle.lookup_model.specs.Sent.{value, values}

-- what an expression means at each place where it is evaluated, and its degree if the transition selector
-- has degree t
pub record Meaning (S K : Type 0) : Type 0 where
  pub means : S → K
  pub degree : ℕ → ℕ

-- the meaning of a constant
abbrev pub constant : {S K : Type 0} → K → Meaning S K
constant k = record { means = λ s. k; degree = λ t. 0 }

module _ {S K : Type 0} (R : Ring K) where
  -- the meaning of a sum
  abbrev pub plus : Meaning S K → Meaning S K → Meaning S K
  plus a b = record { means = λ s. R.add (a.means s) (b.means s); degree = λ t. max (a.degree t) (b.degree t) }

  -- the meaning of a difference
  abbrev pub minus : Meaning S K → Meaning S K → Meaning S K
  minus a b = record { means = λ s. sub_in R (a.means s) (b.means s); degree = λ t. max (a.degree t) (b.degree t) }

  -- the meaning of a product
  abbrev pub times : Meaning S K → Meaning S K → Meaning S K
  times a b = record { means = λ s. R.mul (a.means s) (b.means s); degree = λ t. a.degree t + b.degree t }

module _ {X S K : Type 0} (value : X → S → K) (degree : X → ℕ → ℕ) where
  -- the meaning of an expression
  abbrev pub meaning_of : X → Meaning S K
  meaning_of x = record { means = value x; degree = degree x }

  -- an expression has this meaning, with exactly this degree
  pub record Means (m : Meaning S K) (x : X) : Type 0 where
    pub means : (s : S) → value x s ≡ m.means s
    pub degree_is : (t : ℕ) → degree x t ≡ m.degree t

module _ {B F K X : Type 0} (members : BuilderView B F K X) where
  -- an expression has this meaning at the windows that a builder stands for, and at most this degree
  abbrev pub MeansOn : B → Meaning (ExtWindow F K) K → X → Type 0
  MeansOn builder m = IsConstraintOn members builder (record { meaning = m.means; degree = m.degree })

module _ {F K : Type 0} (E : Extension F K) where
  -- the meaning of an expression over the base field, in the extension
  abbrev pub lifted_meaning : SymbolicExpression F → Meaning (ExtWindow F K) K
  lifted_meaning e = record { means = λ w. E.embed (value E.base w.base e); degree = λ t. expression_degree t e }

  -- the meaning of a challenge
  abbrev pub challenge_meaning : ℕ → Meaning (ExtWindow F K) K
  challenge_meaning i = record { means = λ w. slice_index_or w.challenges i E.ring.zero; degree = λ t. 0 }

  -- the meaning of a tuple that is combined with the beta of a column
  abbrev pub tuple_meaning : ℕ → List (SymbolicExpression F) → Meaning (ExtWindow F K) K
  tuple_meaning column tuple = record { means = λ w. combined E.ring (map E.embed (values E.base w.base tuple)) (slice_index_or w.challenges (2 * column + 1) E.ring.zero); degree = λ t. tuple_degree t tuple }

  -- the meaning of the denominator of a tuple, over the challenges of a column
  abbrev pub denominator_meaning : ℕ → List (SymbolicExpression F) → Meaning (ExtWindow F K) K
  denominator_meaning column tuple = record { means = λ w. column_denominator E w.challenges column (values E.base w.base tuple); degree = λ t. tuple_degree t tuple }

-- the meaning of a cell of the auxiliary trace
abbrev pub cell_meaning : {F K : Type 0} → (ExtWindow F K → K) → Meaning (ExtWindow F K) K
cell_meaning cell = record { means = cell; degree = λ t. 1 }
