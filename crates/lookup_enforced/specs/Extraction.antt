-- The lookups and the constraints of one evaluation of an AIR.
use Rattle.std.specs.Prelude.{◌≡◌, ◌⊎◌, All, Err, Ok, Result, MatchResult, map}
use Rattle.air_expressions.specs.Tree.{tree_of}
use Rattle.air_expressions.specs.declared.error.AirError.{AirError}
use Rattle.air_expressions.specs.declared.layout.AirLayout.{AirLayout}
use Rattle.lookup.specs.Extraction.{IsFaultless, IsFirstLocalRefusal, extraction}
use Rattle.lookup.specs.Lookups.{lookups_of}
use Rattle.lookup_enforced.specs.declared.constrained.ConstrainedLookups.{ConstrainedLookups}
use Rattle.lookup_model.specs.Outline.{fields_of}
use Rattle.lookup_model.specs.Refusal.{from_air}
use Rattle.lookup_model.specs.declared.error.LookupError.{LookupError}
use Rattle.lookup_model.specs.declared.error.LookupError.TheVariants.{Memory}
use Rattle.lookup_record.specs.RecordedAir.{EvaluatesNew, recorded_air}
use Rattle.lookup_record.specs.declared.symbolic.InteractionSymbolicBuilder.{InteractionSymbolicBuilder}

-- The answer is the extraction from what evaluating the AIR left in a new builder, with the constraints over the
-- field that it recorded there, in order; or the refusal that the extraction has. Or memory runs out.
abbrev pub ExtractsBoth : {A F EF : Type 0} → (A → InteractionSymbolicBuilder F EF → Result (Unit {0}) AirError → InteractionSymbolicBuilder F EF → Type 0) → A → AirLayout → Result (ConstrainedLookups F) LookupError → Type 0
ExtractsBoth {A} {F} {EF} evaluates air layout answer = MatchResult answer
    (λ made. (b : InteractionSymbolicBuilder F EF) × EvaluatesNew evaluates air layout (Ok b)
    × (map fields_of (lookups_of made.lookups) ≡ extraction (recorded_air b).locals (recorded_air b).globals (recorded_air b).exclusives)
    × All IsFaultless (recorded_air b).locals
    × (map tree_of made.constraints.items ≡ map tree_of (recorded_air b).constraints.base))
    (λ e. (e ≡ Memory)
    ⊎ (((refusal : AirError) × EvaluatesNew evaluates air layout (Err refusal) × (e ≡ from_air refusal))
    ⊎ ((b : InteractionSymbolicBuilder F EF) × EvaluatesNew evaluates air layout (Ok b) × IsFirstLocalRefusal (recorded_air b).locals e)))
