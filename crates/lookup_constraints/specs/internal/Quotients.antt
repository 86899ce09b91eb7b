-- Quotients of expressions and of meanings, and those of lookups without flags.
use Rattle.std.specs.Prelude.{ℕ, max, List}
use Rattle.field.specs.Extension.{Extension}
use Rattle.field.specs.Ring.{Ring}
use Rattle.air_expressions.specs.Window.{ExtWindow, Window}
use Rattle.air_expressions.specs.declared.base_expression.SymbolicExpression.{SymbolicExpression}
use Rattle.air_expressions.specs.declared.view.BuilderView.{Ghosts as BuilderView}
use Rattle.lookup_constraints.specs.declared.quotient.Quotient.{Quotient}
use Rattle.lookup_constraints.specs.internal.Meanings.{Meaning, MeansOn, constant, denominator_meaning, lifted_meaning, meaning_of, plus, times}
use Rattle.lookup_model.specs.Constraints.{additive_denominator, additive_numerator}
use Rattle.lookup_model.specs.Denominators.{column_denominator}
use Rattle.lookup_model.specs.LookupDegree.{BranchDegrees, additive_denominator_degree, additive_numerator_degree, lookup_branch_degrees}
use Rattle.lookup_model.specs.Message.{Message}
use Rattle.lookup_model.specs.Sent.{branches_at}
use Rattle.lookup_model.specs.declared.types.Lookup.{Lookup}

-- The numerator and the denominator of a quotient have these meanings. `is` says when an expression has
-- a meaning.
pub record IsQuotient {M X : Type 0} (is : M → X → Type 0) (m : Quotient M) (q : Quotient X) : Type 0 where
  pub numerator : is m.numerator q.numerator
  pub denominator : is m.denominator q.denominator

-- the meaning of a quotient, where `of` gives the meaning of an expression
abbrev pub quotient_meaning : {M X : Type 0} → (X → M) → Quotient X → Quotient M
quotient_meaning of q = record { numerator = of q.numerator; denominator = of q.denominator }

module _ {S K : Type 0} (R : Ring K) where
  -- zero over one
  abbrev pub zero_quotient : Quotient (Meaning S K)
  zero_quotient = record { numerator = constant R.zero; denominator = constant R.one }

  -- a quotient plus a numerator over a denominator, over the product of both denominators
  abbrev pub plus_fraction : Quotient (Meaning S K) → Meaning S K → Meaning S K → Quotient (Meaning S K)
  plus_fraction q numerator denominator = record {
    numerator = plus R (times R q.numerator denominator) (times R numerator q.denominator);
    denominator = times R q.denominator denominator;
  }

module _ {F K : Type 0} (E : Extension F K) (column : ℕ) where
  -- V / U over the challenges of a column, for branches and their degrees
  abbrev pub additive_of : (Window F → List (Message F)) → (ℕ → List BranchDegrees) → Quotient (Meaning (ExtWindow F K) K)
  additive_of branches degrees = record {
    numerator = record {
      means = λ w. additive_numerator E (column_denominator E w.challenges column) (branches w.base);
      degree = λ t. max (additive_denominator_degree (degrees t)) (additive_numerator_degree (degrees t));
    };
    denominator = record {
      means = λ w. additive_denominator E (column_denominator E w.challenges column) (branches w.base);
      degree = λ t. additive_denominator_degree (degrees t);
    };
  }

-- V / U of a lookup
abbrev pub additive_meaning : {F K : Type 0} → Extension F K → Lookup F → Quotient (Meaning (ExtWindow F K) K)
additive_meaning E lookup =
    additive_of E lookup.column (λ w. branches_at E.base w lookup.column lookup) (λ t. lookup_branch_degrees t lookup)

module _ {B F K X : Type 0} (members : BuilderView B F K X) (E : Extension F K) (builder : B) where
  -- a quotient plus a tuple's multiplicity over its denominator, for the challenges of a column
  abbrev pub AddsTuple : ℕ → Quotient X → List (SymbolicExpression F) → SymbolicExpression F → Quotient X → Type 0
  AddsTuple column before tuple multiplicity after =
      IsQuotient (MeansOn members builder) (plus_fraction E.ring (quotient_meaning (meaning_of members.means members.degree) before) (lifted_meaning E multiplicity) (denominator_meaning E column tuple)) after
