-- What an auxiliary trace of an AIR with lookups has on a row on which the constraints hold.
use Rattle.std.proofs.Common.{◌≡◌, ℕ, ◌+◌, ◌%◌, ◌<◌, ◌==◌, true, not, Option, List, [], ◌∷◌, length, map, slice_index_or, refl, sym, ap, subst, ◌∙◌, arith}
use Rattle.std.proofs.Math.Nat.{mod-eq_of_lt}
use Rattle.std.proofs.lemmas.Bool.{eq-eqb, ne_eqb}
use Rattle.std.specs.List.{AllByRecursion}
use Rattle.list_laws.proofs.Each.{all_front, all_back, all_of_map}
use Rattle.matrix.specs.Matrix.{Matrix, height, row}
use Rattle.air_expressions.specs.Window.{ExtWindow}
use Rattle.air.specs.Traces.{AirTraces}
use Rattle.field.specs.Extension.{Extension, IsLawful}
use Rattle.lookup_model.specs.Constraints.{Constraint, accumulator_at, accumulator_constraints, first_constraint, transition_constraint, last_constraint, fraction_constraint, fractions_at, terminal_at}
use Rattle.lookup_model.specs.Witness.{HoldsOnRow, witness_window}
use Rattle.lookup_model.specs.declared.types.Lookup.{Lookup}
use Rattle.lookup_model.specs.declared.types.LookupTerminal.{LookupTerminal}
use Rattle.lookup_model.proofs.ConstraintLaws.{accumulator_constraints-some}
use Rattle.lookup_model.proofs.Lookups.Selectors.{put_together, zero_selected}

module _ {F K : Type 0} {E : Extension F K} (laws : IsLawful E) (traces : AirTraces F) (lookups : List (Lookup F)) (challenges : List K) (auxiliary : Matrix K) (terminal : Option (LookupTerminal K)) where
  -- the window of a row, and that a constraint is zero there
  abbrev pub window_of : ℕ → ExtWindow F K
  window_of r = witness_window traces challenges auxiliary terminal r

  abbrev pub IsZeroAt : ℕ → Constraint F K → Type 0
  IsZeroAt r constraint = constraint.meaning (window_of r) ≡ E.ring.zero

  -- every constraint is zero on a row
  abbrev pub HoldsOn : ℕ → Type 0
  HoldsOn = HoldsOnRow E traces lookups challenges auxiliary terminal

  -- the constraint of each lookup is zero
  pub fraction_zeros : (r : ℕ) → HoldsOn r → AllByRecursion (λ lookup. IsZeroAt r (fraction_constraint E lookup)) lookups
  fraction_zeros r holds =
      all_of_map (IsZeroAt r) (fraction_constraint E) lookups (all_front (IsZeroAt r) (map (fraction_constraint E) lookups) (accumulator_constraints E lookups (terminal_at E) (λ t. 0)) holds)

  module _ (some : 0 < length lookups) where
    three_zeros : (r : ℕ) → HoldsOn r → AllByRecursion (IsZeroAt r) (first_constraint E ∷ transition_constraint E lookups ∷ last_constraint E lookups (terminal_at E) (λ t. 0) ∷ [])
    three_zeros r holds =
        subst (AllByRecursion (IsZeroAt r)) (accumulator_constraints-some E lookups (terminal_at E) (λ t. 0) some)
        (all_back (IsZeroAt r) (map (fraction_constraint E) lookups) (accumulator_constraints E lookups (terminal_at E) (λ t. 0)) holds)

    -- the accumulator starts at zero, and on the next row it has the fractions of this row added
    pub first_accumulator : HoldsOn 0 → accumulator_at E (window_of 0) ≡ E.ring.zero
    first_accumulator holds = zero_selected laws.ring (0 == 0) (accumulator_at E (window_of 0)) refl (three_zeros 0 holds).0

    pub next_accumulator : (r : ℕ) → HoldsOn r → r + 1 < height traces.main → accumulator_at E (window_of (r + 1)) ≡ E.ring.add (accumulator_at E (window_of r)) (fractions_at E lookups (window_of r))
    next_accumulator r holds inner =
        let on : not (r + 1 == height traces.main) ≡ true = ap not (ne_eqb (r + 1) (height traces.main) (λ e. absurd (omega (arith, e, inner)))) in
        ap (λ i. slice_index_or (row auxiliary i) 0 E.ring.zero) (sym (mod-eq_of_lt inner))
        ∙ put_together laws.ring (accumulator_at E (window_of r)) (fractions_at E lookups (window_of r)) (slice_index_or (row auxiliary ((r + 1) % height traces.main)) 0 E.ring.zero)
        (zero_selected laws.ring (not (r + 1 == height traces.main)) _ on (three_zeros r holds).1.0)

    -- after the last row that sum is the terminal
    pub last_accumulator : (r : ℕ) → HoldsOn r → r + 1 ≡ height traces.main → terminal_at E (window_of r) ≡ E.ring.add (accumulator_at E (window_of r)) (fractions_at E lookups (window_of r))
    last_accumulator r holds last =
        put_together laws.ring (accumulator_at E (window_of r)) (fractions_at E lookups (window_of r)) (terminal_at E (window_of r))
        (zero_selected laws.ring (r + 1 == height traces.main) _ (eq-eqb (r + 1) (height traces.main) last) (three_zeros r holds).1.1.0)
