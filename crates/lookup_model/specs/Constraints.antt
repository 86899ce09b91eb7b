-- The constraints that a lookup argument emits for one AIR (LogUp, eprint 2022/1530). Each is the
-- left side of an equation whose right side is zero.
use Rattle.std.specs.Prelude.{ℕ, Bool, ◌+◌, max, List, [], ◌∷◌, ◌++◌, Option, None, Some, map, slice_index_or}
use Rattle.std.specs.List.{zip}
use Rattle.field.specs.Ring.{of_bool, sub_in}
use Rattle.field.specs.Sums.{sum_in, product_in, taken_out}
use Rattle.air_expressions.specs.Window.{ExtWindow}
use Rattle.lookup_model.specs.Denominators.{column_denominator}
use Rattle.field.specs.Extension.{Extension}
use Rattle.lookup_model.specs.LookupDegree.{lookup_degree}
use Rattle.lookup_model.specs.Message.{Message}
use Rattle.lookup_model.specs.Sent.{branches_at, flags_at}
use Rattle.lookup_model.specs.declared.types.Lookup.{Lookup}

-- what a constraint means at a window, and its degree if the transition selector has degree t
pub record Constraint (F K : Type 0) : Type 0 where
  pub meaning : ExtWindow F K → K
  pub degree : ℕ → ℕ

-- N = sum(flag * multiplicity)
abbrev pub exclusive_numerator : {F K : Type 0} → Extension F K → List F → List (Message F) → K
exclusive_numerator E flags branches =
    sum_in E.ring (map (λ b. E.ring.mul (E.embed b.0) (E.embed b.1.multiplicity)) (zip flags branches))

module _ {F K : Type 0} (E : Extension F K) (denominator : List F → K) where
  -- U, the product of the denominators of all branches
  abbrev pub additive_denominator : List (Message F) → K
  additive_denominator branches = product_in E.ring (map (λ m. denominator m.key.tuple) branches)

  -- V, the sum of each multiplicity times the other denominators
  abbrev pub additive_numerator : List (Message F) → K
  additive_numerator branches =
      sum_in E.ring (map (λ t. E.ring.mul (E.embed t.0.multiplicity) (additive_denominator t.1)) (taken_out branches))

  -- sum(flag * denominator)
  abbrev pub flagged_denominators : List F → List (Message F) → K
  flagged_denominators flags branches = sum_in E.ring (map (λ b. E.ring.mul (E.embed b.0) (denominator b.1.key.tuple)) (zip flags branches))

  -- D = sum(flag * denominator) + (1 - sum(flag))
  abbrev pub exclusive_denominator : List F → List (Message F) → K
  exclusive_denominator flags branches =
      E.ring.add (flagged_denominators flags branches) (sub_in E.ring E.ring.one (sum_in E.ring (map E.embed flags)))

  -- the denominator of a lookup's fraction: U without flags, D with flags
  abbrev pub fraction_denominator : Option (List F) → List (Message F) → K
  fraction_denominator None branches = additive_denominator branches
  fraction_denominator (Some flags) branches = exclusive_denominator flags branches

  -- its numerator: V without flags, N with flags
  abbrev pub fraction_numerator : Option (List F) → List (Message F) → K
  fraction_numerator None branches = additive_numerator branches
  fraction_numerator (Some flags) branches = exclusive_numerator E flags branches

  -- U * f - V without flags, and D * f - N with flags, for the fraction f
  abbrev pub fraction_left : Option (List F) → List (Message F) → K → K
  fraction_left flags branches f =
      sub_in E.ring (E.ring.mul (fraction_denominator flags branches) f) (fraction_numerator flags branches)

module _ {F K : Type 0} (E : Extension F K) where
  -- the accumulator on the row, and on the next row
  abbrev pub accumulator_at : ExtWindow F K → K
  accumulator_at w = slice_index_or w.permutation 0 E.ring.zero

  abbrev pub next_accumulator_at : ExtWindow F K → K
  next_accumulator_at w = slice_index_or w.permutation_next 0 E.ring.zero

  -- the fraction of the lookup in a column, which is one place further on the row
  abbrev pub fraction_at : ℕ → ExtWindow F K → K
  fraction_at column w = slice_index_or w.permutation (column + 1) E.ring.zero

  -- the sum of the fractions of all lookups
  abbrev pub fractions_at : List (Lookup F) → ExtWindow F K → K
  fractions_at lookups w = sum_in E.ring (map (λ lookup. fraction_at lookup.column w) lookups)

  -- the terminal, which is the first permutation value
  abbrev pub terminal_at : ExtWindow F K → K
  terminal_at w = slice_index_or w.permutation_values 0 E.ring.zero

  -- The fraction of a lookup: U * f - V without flags, D * f - N with flags.
  abbrev pub fraction_constraint : Lookup F → Constraint F K
  fraction_constraint lookup = record {
    meaning = λ w. fraction_left E (column_denominator E w.challenges lookup.column) (flags_at E.base w.base lookup) (branches_at E.base w.base lookup.column lookup) (fraction_at lookup.column w);
    degree = λ t. lookup_degree t lookup;
  }

  -- a constraint on some rows only: the selector times its left side
  abbrev pub selected : (ExtWindow F K → Bool) → (ℕ → ℕ) → (ExtWindow F K → K) → (ℕ → ℕ) → Constraint F K
  selected selector selector_degree left degree = record {
    meaning = λ w. E.ring.mul (of_bool E.ring (selector w)) (left w);
    degree = λ t. selector_degree t + degree t;
  }

  -- On the first row the accumulator is zero.
  abbrev pub first_constraint : Constraint F K
  first_constraint = selected (λ w. w.base.is_first) (λ t. 1) accumulator_at (λ t. 1)

  -- On every row but the last the next accumulator is this one plus the fractions of the row.
  abbrev pub transition_constraint : List (Lookup F) → Constraint F K
  transition_constraint lookups =
      selected (λ w. w.base.is_transition) (λ t. t) (λ w. sub_in E.ring (sub_in E.ring (next_accumulator_at w) (accumulator_at w)) (fractions_at lookups w)) (λ t. 1)

  -- On the last row the terminal is the accumulator plus the fractions of the row.
  abbrev pub last_constraint : List (Lookup F) → (ExtWindow F K → K) → (ℕ → ℕ) → Constraint F K
  last_constraint lookups terminal terminal_degree =
      selected (λ w. w.base.is_last) (λ t. 1) (λ w. sub_in E.ring (sub_in E.ring (terminal w) (accumulator_at w)) (fractions_at lookups w)) (λ t. max (terminal_degree t) 1)

  -- The accumulator's three constraints: first row, transition, last row; none without lookups.
  abbrev pub accumulator_constraints : List (Lookup F) → (ExtWindow F K → K) → (ℕ → ℕ) → List (Constraint F K)
  accumulator_constraints [] terminal terminal_degree = []
  accumulator_constraints (l ∷ ls) terminal terminal_degree =
      first_constraint ∷ transition_constraint (l ∷ ls) ∷ last_constraint (l ∷ ls) terminal terminal_degree ∷ []

  -- All constraints of the lookups of one AIR: one for each lookup in order, then the
  -- accumulator's.
  abbrev pub lookup_constraints : List (Lookup F) → List (Constraint F K)
  lookup_constraints lookups =
      map fraction_constraint lookups ++ accumulator_constraints lookups terminal_at (λ t. 0)
