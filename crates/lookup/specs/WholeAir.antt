-- The evaluation of an AIR with its lookups.
use Rattle.std.specs.Prelude.{◌≡◌, ◌⊎◌, Result, Ok, Err}
use Rattle.air_expressions.specs.declared.error.AirError.{AirError}

-- The AIR comes first, by its own relation. Either it refuses, and the builder is left as it left it;
-- or there is a builder that it has left, and the evaluation goes on from there to the answer.
abbrev pub EvaluatesBoth : {A B : Type 0} → (A → B → Result (Unit {0}) AirError → B → Type 0) → (B → Result (Unit {0}) AirError → B → Type 0) → A → B → Result (Unit {0}) AirError → B → Type 0
EvaluatesBoth {A} {B} evaluates goes_on air before answer after =
    ((e : AirError) × (answer ≡ Err e) × evaluates air before (Err e) after)
    ⊎ ((between : B) × evaluates air before (Ok tt) between × goes_on between answer after)
