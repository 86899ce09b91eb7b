-- How the AIRs of the machines push.
use Rattle.std.specs.Prelude.{◌≡◌, ◌⊎◌, ℕ, Result, Ok, Err, MatchResult}
use Rattle.std.proofs.Common.{inl, inr, subst}
use Rattle.air.specs.Cell.{IsCellsRefusal}
use Rattle.air_expressions.specs.declared.error.AirError.{AirError}
use Rattle.air_expressions.specs.declared.layout.AirLayout.{AirLayout}
use Rattle.lookup_record.specs.Messages.{PushesOne}

-- there was the refusal of a cell, and the builder is unchanged
abbrev pub IsRefusedBefore : {B : Type 0} → (B → AirError → Type 0) → (B → AirLayout) → ℕ → B → Result (Unit {0}) AirError → B → Type 0
IsRefusedBefore window_refuses layout columns before answer after =
    (e : AirError) × (answer ≡ Err e) × (after ≡ before) × IsCellsRefusal window_refuses layout columns before e

-- an AIR that reads so many columns pushes one interaction of a given meaning; or it is refused
-- before, for a cell
abbrev pub EvaluatesOnePush : {B M : Type 0} → (B → M → B → Type 0) → (B → M → AirError → B → Type 0) → (B → AirError → Type 0) → (B → AirLayout) → (M → Type 0) → ℕ → B → Result (Unit {0}) AirError → B → Type 0
EvaluatesOnePush pushes refuses window_refuses layout IsMeant columns before answer after =
    PushesOne pushes refuses IsMeant before answer after ⊎ IsRefusedBefore window_refuses layout columns before answer after

-- what is accepted was pushed
pub pushed_if_accepted : {B M : Type 0} (pushes : B → M → B → Type 0) (refuses : B → M → AirError → B → Type 0) (window_refuses : B → AirError → Type 0) (layout : B → AirLayout) (IsMeant : M → Type 0) (columns : ℕ) (before after : B)
    → EvaluatesOnePush pushes refuses window_refuses layout IsMeant columns before (Ok tt) after → (m : M) × IsMeant m × pushes before m after
pushed_if_accepted pushes refuses window_refuses layout IsMeant columns before after (inl pushed) = pushed
pushed_if_accepted pushes refuses window_refuses layout IsMeant columns before after (inr refused) =
    absurd (subst (λ (answer : Result (Unit {0}) AirError). MatchResult answer (λ _. Unit {0}) (λ _. ⊥)) refused.1 tt)
