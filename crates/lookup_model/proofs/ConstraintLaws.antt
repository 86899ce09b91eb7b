-- The accumulator's constraints as a list.
use Rattle.std.proofs.Common.{◌≡◌, ℕ, ◌<◌, List, [], ◌∷◌, length, refl, arith}
use Rattle.air_expressions.specs.Window.{ExtWindow}
use Rattle.lookup_model.specs.Constraints.{accumulator_constraints, first_constraint, last_constraint, transition_constraint}
use Rattle.field.specs.Extension.{Extension}
use Rattle.lookup_model.specs.declared.types.Lookup.{Lookup}

-- the three constraints, if there are lookups
pub accumulator_constraints-some : {F K : Type 0} (E : Extension F K) (lookups : List (Lookup F)) (terminal : ExtWindow F K → K) (terminal_degree : ℕ → ℕ) → 0 < length lookups → accumulator_constraints E lookups terminal terminal_degree ≡ first_constraint E ∷ transition_constraint E lookups ∷ last_constraint E lookups terminal terminal_degree ∷ []
accumulator_constraints-some E [] terminal terminal_degree some = absurd (omega (arith, some))
accumulator_constraints-some E (l ∷ ls) terminal terminal_degree some = refl
