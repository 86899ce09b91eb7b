-- The equations that the fractions of a batch have to satisfy, and what their solutions can sum to.
use Rattle.std.specs.Prelude.{◌≡◌, ℕ, List, [], map}
use Rattle.std.specs.List.{AllZip, flat_map, range_with_len}
use Rattle.field.specs.Ring.{Ring}
use Rattle.field.specs.Sums.{sum_in}
use Rattle.air_expressions.specs.Window.{ExtWindow}
use Rattle.air.specs.Traces.{height_of, window_of}
use Rattle.lookup_model.specs.Challenges.{ChallengeTable, column_challenges}
use Rattle.lookup_model.specs.Constraints.{fraction_denominator, fraction_numerator}
use Rattle.lookup_model.specs.Denominators.{column_denominator}
use Rattle.field.specs.Extension.{Extension}
use Rattle.lookup_model.specs.Sent.{branches_at, flags_at}
use Rattle.lookup_model.specs.declared.types.Lookup.{Lookup}
use Rattle.lookup_model.specs.Batches.Instances.{Instance}

-- the equation denominator * f = numerator of a fraction f
pub record Equation (K : Type 0) : Type 0 where
  pub numerator : K
  pub denominator : K

module _ {K : Type 0} (S : Ring K) where
  -- f solves an equation
  abbrev pub Solves : Equation K → K → Type 0
  Solves equation f = S.mul equation.denominator f ≡ equation.numerator

  -- Solutions of the equations, one of each, can sum to this. Over a field they can sum to no element
  -- if an equation has no solution, to every element if all have one and one is solved by everything,
  -- and otherwise to one element alone.
  pub record CanSumTo (equations : List (Equation K)) (total : K) : Type 0 where
    pub fractions : List K
    pub solve : AllZip Solves equations fractions
    pub sum : sum_in S fractions ≡ total

module _ {F K : Type 0} (E : Extension F K) where
  -- The equation of a lookup's fraction at a window: U * f = V without flags, D * f = N with flags.
  abbrev pub equation_at : ExtWindow F K → Lookup F → Equation K
  equation_at w lookup = record {
    numerator = fraction_numerator E (column_denominator E w.challenges lookup.column) (flags_at E.base w.base lookup) (branches_at E.base w.base lookup.column lookup);
    denominator = fraction_denominator E (column_denominator E w.challenges lookup.column) (flags_at E.base w.base lookup) (branches_at E.base w.base lookup.column lookup);
  }

  -- those of all lookups of an AIR
  abbrev pub row_equations : ExtWindow F K → List (Lookup F) → List (Equation K)
  row_equations w lookups = map (equation_at w) lookups

  module _ (table : ChallengeTable K) where
    -- row r of an AIR with the challenges of its columns, and nothing of an auxiliary trace
    abbrev pub challenged_window : Instance F → ℕ → ExtWindow F K
    challenged_window i r = record {
      base = window_of i.traces r;
      permutation = [];
      permutation_next = [];
      challenges = column_challenges table i.ids;
      permutation_values = [];
    }

    -- the equations of an AIR, row by row and lookup by lookup
    abbrev pub air_equations : Instance F → List (Equation K)
    air_equations i = flat_map (λ r. row_equations (challenged_window i r) i.lookups) (range_with_len 0 (height_of i.traces))

    -- those of a batch, AIR by AIR
    abbrev pub batch_equations : List (Instance F) → List (Equation K)
    batch_equations instances = flat_map air_equations instances
