-- What the quotient of a lookup means.
use Rattle.std.specs.Prelude.{◌≡◌, ◌≤◌, ◌+◌, ℕ, max, List, Option, map}
use Rattle.std.specs.Option.{option_map}
use Rattle.field.specs.Extension.{Extension}
use Rattle.air_expressions.specs.Window.{ExtWindow, Window}
use Rattle.air_expressions.specs.declared.view.BuilderView.{Ghosts as BuilderView}
use Rattle.lookup_constraints.specs.declared.quotient.Quotient.{Quotient}
use Rattle.lookup_model.specs.Constraints.{fraction_denominator, fraction_numerator}
use Rattle.lookup_model.specs.Denominators.{column_denominator}
use Rattle.lookup_model.specs.LookupDegree.{constraint_degree_of, expression_degree, lookup_branch_degrees}
use Rattle.lookup_model.specs.Sent.{branches_at, flags_at}
use Rattle.lookup_model.specs.declared.types.Lookup.{Lookup}

module _ {B F K X : Type 0} (members : BuilderView B F K X) (E : Extension F K) (builder : B) where
  -- The quotient of a lookup's fraction, at the windows that a builder stands for, where these are the
  -- flags and their degrees. The constraint of the fraction has at most the degree that they give.
  pub record IsQuotientUnder (lookup : Lookup F) (flags : Window F → Option (List F)) (flag_degrees : ℕ → Option (List ℕ)) (q : Quotient X) : Type 0 where
    pub numerator : (w : ExtWindow F K) → members.stands_for_ext builder w → members.means q.numerator w ≡ fraction_numerator E (column_denominator E w.challenges lookup.column) (flags w.base) (branches_at E.base w.base lookup.column lookup)
    pub denominator : (w : ExtWindow F K) → members.stands_for_ext builder w → members.means q.denominator w ≡ fraction_denominator E (column_denominator E w.challenges lookup.column) (flags w.base) (branches_at E.base w.base lookup.column lookup)
    pub degree : (t : ℕ) → max (1 + members.degree q.denominator t) (members.degree q.numerator t) ≤ constraint_degree_of (flag_degrees t) (lookup_branch_degrees t lookup)

  -- The quotient of a lookup's fraction under the lookup's own flags: V / U without them, N / D with
  -- them. The constraint of the fraction has at most the lookup's degree.
  abbrev pub IsLookupQuotient : Lookup F → Quotient X → Type 0
  IsLookupQuotient lookup =
      IsQuotientUnder lookup (λ w. flags_at E.base w lookup) (λ t. option_map (λ flags. map (expression_degree t) flags.items) lookup.flags)
