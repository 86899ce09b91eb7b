-- The sums over the branches of an exclusive lookup.
use Rattle.std.specs.Prelude.{ℕ, List, map}
use Rattle.field.specs.Extension.{Extension}
use Rattle.field.specs.Ring.{Ring}
use Rattle.field.specs.Sums.{sum_in}
use Rattle.air_expressions.specs.Window.{ExtWindow}
use Rattle.air_expressions.specs.declared.base_expression.SymbolicExpression.{SymbolicExpression}
use Rattle.air_expressions.specs.declared.view.BuilderView.{Ghosts as BuilderView}
use Rattle.lookup_constraints.specs.declared.exclusive.Selection.{Selection}
use Rattle.lookup_constraints.specs.declared.quotient.Quotient.{Quotient}
use Rattle.lookup_constraints.specs.internal.Meanings.{Meaning, MeansOn, constant, denominator_meaning, lifted_meaning, meaning_of, minus, plus, times}
use Rattle.lookup_model.specs.Constraints.{exclusive_numerator, flagged_denominators}
use Rattle.lookup_model.specs.Denominators.{column_denominator}
use Rattle.lookup_model.specs.LookupDegree.{exclusive_denominator_degree, exclusive_numerator_degree, expression_degree, lookup_branch_degrees}
use Rattle.lookup_model.specs.Sent.{branches_at, values}
use Rattle.lookup_model.specs.declared.types.Lookup.{Lookup}

-- The sums have these meanings. `is` says when an expression has a meaning.
pub record IsSelection {M X : Type 0} (is : M → X → Type 0) (m : Selection M) (s : Selection X) : Type 0 where
  pub numerator : is m.numerator s.numerator
  pub denominator : is m.denominator s.denominator
  pub flags : is m.flags s.flags

-- the meanings of the sums, where `of` gives the meaning of an expression
abbrev pub selection_meaning : {M X : Type 0} → (X → M) → Selection X → Selection M
selection_meaning of s = record { numerator = of s.numerator; denominator = of s.denominator; flags = of s.flags }

module _ {S K : Type 0} (R : Ring K) where
  -- the sums over no branch
  abbrev pub empty_selection : Selection (Meaning S K)
  empty_selection = record { numerator = constant R.zero; denominator = constant R.zero; flags = constant R.zero }

  -- the sums with one more branch: its flag times its numerator, its flag times its denominator, and its
  -- flag
  abbrev pub plus_branch : Selection (Meaning S K) → Meaning S K → Meaning S K → Meaning S K → Selection (Meaning S K)
  plus_branch s flag numerator denominator = record {
    numerator = plus R s.numerator (times R flag numerator);
    denominator = plus R s.denominator (times R flag denominator);
    flags = plus R s.flags flag;
  }

  -- the quotient of the sums: the denominator is one if no flag is set
  abbrev pub selected_quotient : Selection (Meaning S K) → Quotient (Meaning S K)
  selected_quotient s = record { numerator = s.numerator; denominator = plus R s.denominator (minus R (constant R.one) s.flags) }

-- the sums over the branches of a lookup, as many as there are flags; the degree of the flags is a bound
abbrev pub branch_sums : {F K : Type 0} → Extension F K → Lookup F → List (SymbolicExpression F) → Selection (Meaning (ExtWindow F K) K)
branch_sums E lookup flags = record {
  numerator = record {
    means = λ w. exclusive_numerator E (values E.base w.base flags) (branches_at E.base w.base lookup.column lookup);
    degree = λ t. exclusive_numerator_degree (map (expression_degree t) flags) (lookup_branch_degrees t lookup);
  };
  denominator = record {
    means = λ w. flagged_denominators E (column_denominator E w.challenges lookup.column) (values E.base w.base flags) (branches_at E.base w.base lookup.column lookup);
    degree = λ t. exclusive_denominator_degree (map (expression_degree t) flags) (lookup_branch_degrees t lookup);
  };
  flags = record {
    means = λ w. sum_in E.ring (map E.embed (values E.base w.base flags));
    degree = λ t. exclusive_denominator_degree (map (expression_degree t) flags) (lookup_branch_degrees t lookup);
  };
}

-- N / D of a lookup under flags
abbrev pub exclusive_meaning : {F K : Type 0} → Extension F K → Lookup F → List (SymbolicExpression F) → Quotient (Meaning (ExtWindow F K) K)
exclusive_meaning E lookup flags = selected_quotient E.ring (branch_sums E lookup flags)

-- sums with one more branch, a tuple with its flag and its multiplicity, for the challenges of a column
abbrev pub AddsBranch : {B F K X : Type 0} → BuilderView B F K X → Extension F K → B → ℕ → Selection X → SymbolicExpression F → List (SymbolicExpression F) → SymbolicExpression F → Selection X → Type 0
AddsBranch members E builder column before flag tuple multiplicity after =
    IsSelection (MeansOn members builder) (plus_branch E.ring (selection_meaning (meaning_of members.means members.degree) before) (lifted_meaning E flag) (lifted_meaning E multiplicity) (denominator_meaning E column tuple)) after
