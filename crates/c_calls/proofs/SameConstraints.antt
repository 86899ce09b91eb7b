-- Lookups that have the same expressions, node by node, have the same constraints.
use Rattle.std.proofs.Common.{◌≡◌, ◌∙◌, ◌++◌, ◌∷◌, [], ℕ, List, Option, ap, arith, length, map, refl, subst, sym}
use Rattle.std.proofs.lemmas.List.{map-append}
use Rattle.std.specs.List.{AllByRecursion, zip}
use Rattle.std.specs.Option.{option_map}
use Rattle.air.specs.Traces.{AirTraces}
use Rattle.air_expressions.specs.Meaning.{value_of}
use Rattle.air_expressions.specs.Tree.{Tree}
use Rattle.air_expressions.specs.Window.{ExtWindow}
use Rattle.field.specs.Extension.{Extension}
use Rattle.field.specs.Ring.{of_bool, sub_in}
use Rattle.field.specs.Sums.{sum_in}
use Rattle.matrix.specs.Matrix.{Matrix}
use Rattle.lookup_model.specs.Constraints.{accumulator_at, accumulator_constraints, fraction_at, fraction_constraint, fraction_left, fractions_at, lookup_constraints, next_accumulator_at, terminal_at}
use Rattle.lookup_model.specs.Denominators.{column_denominator}
use Rattle.lookup_model.specs.Outline.{Outline, outline_of}
use Rattle.lookup_model.specs.Witness.{HoldsOnRow, witness_window}
use Rattle.lookup_model.specs.declared.types.Lookup.{Lookup}
use Rattle.lookup_model.specs.declared.types.LookupTerminal.{LookupTerminal}
use Rattle.c_calls.proofs.SameLookups.{branch_of, same_branches, same_flags, same_images, same_many}

-- what holds of all images, and of all
of_images : {A B : Type 0} (P : B → Type 0) (f : A → B) (xs : List A) → AllByRecursion P (map f xs) → AllByRecursion (λ x. P (f x)) xs
of_images P f [] all = tt
of_images P f (x ∷ xs) all = (all.0, of_images P f xs all.1)

to_images : {A B : Type 0} (P : B → Type 0) (f : A → B) (xs : List A) → AllByRecursion (λ x. P (f x)) xs → AllByRecursion P (map f xs)
to_images P f [] all = tt
to_images P f (x ∷ xs) all = (all.0, to_images P f xs all.1)

module _ {F K : Type 0} (E : Extension F K) (w : ExtWindow F K) where
  -- the left side of a lookup with this outline
  abbrev left_of : Outline (Tree F) → K
  left_of o = fraction_left E (column_denominator E w.challenges o.column) (option_map (map (value_of E.base w.base)) o.flags) (map (branch_of E.base E.base_eq w.base o.column) (zip o.elements o.multiplicities)) (fraction_at E o.column w)

  same_left : (lookup : Lookup F) → (fraction_constraint E lookup).meaning w ≡ left_of (outline_of lookup)
  same_left lookup = λ i.
      fraction_left E (column_denominator E w.challenges lookup.column) (same_flags E.base E.base_eq w.base lookup.flags i) (same_branches E.base E.base_eq w.base lookup.column lookup.elements.items lookup.multiplicities.items i) (fraction_at E lookup.column w)

  -- the left sides of all constraints
  abbrev lefts : List (Lookup F) → List K
  lefts lookups = map (λ c. c.meaning w) (lookup_constraints E lookups)

  module _ (others lookups : List (Lookup F)) (same : map outline_of others ≡ map outline_of lookups) where
    same_fractions : map (λ c. c.meaning w) (map (fraction_constraint E) others) ≡ map (λ c. c.meaning w) (map (fraction_constraint E) lookups)
    same_fractions =
        sym (same_images (λ l. (fraction_constraint E l).meaning w) (λ c. c.meaning w) (fraction_constraint E) others (λ l. refl))
        ∙ same_images (λ l. (fraction_constraint E l).meaning w) left_of outline_of others same_left
        ∙ ap (map left_of) same
        ∙ sym (same_images (λ l. (fraction_constraint E l).meaning w) left_of outline_of lookups same_left)
        ∙ same_images (λ l. (fraction_constraint E l).meaning w) (λ c. c.meaning w) (fraction_constraint E) lookups (λ l. refl)

    same_columns : fractions_at E others w ≡ fractions_at E lookups w
    same_columns =
        ap (sum_in E.ring)
        (same_images (λ l. fraction_at E l.column w) (λ o. fraction_at E o.column w) outline_of others (λ l. refl)
        ∙ ap (map (λ o. fraction_at E o.column w)) same
        ∙ sym (same_images (λ l. fraction_at E l.column w) (λ o. fraction_at E o.column w) outline_of lookups (λ l. refl)))

  same_accumulators : (others lookups : List (Lookup F)) → length others ≡ length lookups → fractions_at E others w ≡ fractions_at E lookups w
      → map (λ c. c.meaning w) (accumulator_constraints E others (terminal_at E) (λ t. 0)) ≡ map (λ c. c.meaning w) (accumulator_constraints E lookups (terminal_at E) (λ t. 0))
  same_accumulators [] [] many sums = refl
  same_accumulators [] (l ∷ ls) many sums = absurd (omega (arith, many))
  same_accumulators (o ∷ os) [] many sums = absurd (omega (arith, many))
  same_accumulators (o ∷ os) (l ∷ ls) many sums = λ i.
      E.ring.mul (of_bool E.ring w.base.is_first) (accumulator_at E w)
      ∷ E.ring.mul (of_bool E.ring w.base.is_transition) (sub_in E.ring (sub_in E.ring (next_accumulator_at E w) (accumulator_at E w)) (sums i))
      ∷ E.ring.mul (of_bool E.ring w.base.is_last) (sub_in E.ring (sub_in E.ring (terminal_at E w) (accumulator_at E w)) (sums i))
      ∷ []

  same_lefts : (others lookups : List (Lookup F)) → map outline_of others ≡ map outline_of lookups → lefts others ≡ lefts lookups
  same_lefts others lookups same =
      map-append (λ c. c.meaning w) (map (fraction_constraint E) others) (accumulator_constraints E others (terminal_at E) (λ t. 0))
      ∙ (λ i. same_fractions others lookups same i ++ same_accumulators others lookups (same_many others lookups same) (same_columns others lookups same) i)
      ∙ sym (map-append (λ c. c.meaning w) (map (fraction_constraint E) lookups) (accumulator_constraints E lookups (terminal_at E) (λ t. 0)))

-- they hold on the same rows
pub holds_same : {F K : Type 0} (E : Extension F K) (traces : AirTraces F) (others lookups : List (Lookup F)) (challenges : List K) (auxiliary : Matrix K) (terminal : Option (LookupTerminal K)) (r : ℕ) → map outline_of others ≡ map outline_of lookups
    → HoldsOnRow E traces others challenges auxiliary terminal r → HoldsOnRow E traces lookups challenges auxiliary terminal r
holds_same E traces others lookups challenges auxiliary terminal r same holds =
    let w = witness_window traces challenges auxiliary terminal r in
    of_images (λ k. k ≡ E.ring.zero) (λ c. c.meaning w) (lookup_constraints E lookups)
    (subst (AllByRecursion (λ k. k ≡ E.ring.zero)) (same_lefts E w others lookups same)
    (to_images (λ k. k ≡ E.ring.zero) (λ c. c.meaning w) (lookup_constraints E others) holds))
