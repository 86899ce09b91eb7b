-- Evaluations of an AIR for its own layout.
use Rattle.std.proofs.Common.{◌≡◌, ℕ, None, Result, ap, refl, subst, ◌∙◌}
use Rattle.std.proofs.lemmas.Bool.{eq-eqb}
use Rattle.air_expressions.specs.Layout.{first_mismatch, layout_of_widths}
use Rattle.air_expressions.specs.declared.error.AirError.{AirError}
use Rattle.air_expressions.specs.declared.layout.AirLayout.{AirLayout}
use Rattle.lookup_record.specs.RecordedAir.{EvaluatesNew}
use Rattle.lookup_record.specs.declared.symbolic.InteractionSymbolicBuilder.{InteractionSymbolicBuilder}

-- the layout of an AIR's own widths has them
pub no_mismatch : (main preprocessed public_values : ℕ) → first_mismatch main preprocessed public_values (layout_of_widths main preprocessed public_values) ≡ None
no_mismatch main preprocessed public_values =
    rw (eq-eqb main main refl, eq-eqb preprocessed preprocessed refl, eq-eqb public_values public_values refl) refl

-- so has one that is equal to it
pub own_mismatch : (main preprocessed public_values : ℕ) (layout : AirLayout) → layout ≡ layout_of_widths main preprocessed public_values → first_mismatch main preprocessed public_values layout ≡ None
own_mismatch main preprocessed public_values layout is =
    ap (first_mismatch main preprocessed public_values) is ∙ no_mismatch main preprocessed public_values

-- an evaluation for a layout that is the AIR's own
pub evaluated_as : {A F EF : Type 0} (evaluates : A → InteractionSymbolicBuilder F EF → Result (Unit {0}) AirError → InteractionSymbolicBuilder F EF → Type 0) (air : A) (main preprocessed public_values : ℕ) (layout : AirLayout) (answer : Result (InteractionSymbolicBuilder F EF) AirError)
    → layout ≡ layout_of_widths main preprocessed public_values → (first_mismatch main preprocessed public_values layout ≡ None → EvaluatesNew evaluates air layout answer)
    → EvaluatesNew evaluates air (layout_of_widths main preprocessed public_values) answer
evaluated_as evaluates air main preprocessed public_values layout answer is given =
    subst (λ (l : AirLayout). EvaluatesNew evaluates air l answer) is (given (own_mismatch main preprocessed public_values layout is))
