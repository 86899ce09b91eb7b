-- What a generation answers.
use Rattle.std.specs.Prelude.{◌≡◌, ◌⊎◌, List, [], Option, Some, Result, MatchResult, slice_get}
use Rattle.matrix.specs.Matrix.{Matrix}
use Rattle.air.specs.Traces.{AirTraces}
use Rattle.lookup_model.specs.Denominators.{key_denominator}
use Rattle.field.specs.Extension.{Extension}
use Rattle.lookup_model.specs.Fault.{trace_faults}
use Rattle.lookup_model.specs.Generated.{plain_matrix, plain_terminal_of}
use Rattle.lookup_model.specs.Trace.{sent_rows}
use Rattle.lookup_model.specs.Witness.{IsSatisfied}
use Rattle.lookup_model.specs.declared.error.LookupError.{LookupError}
use Rattle.lookup_model.specs.declared.error.LookupError.TheVariants.{Memory}
use Rattle.lookup_model.specs.declared.types.Lookup.{Lookup}
use Rattle.lookup_model.specs.declared.types.LookupTerminal.{LookupTerminal}

-- The generation of one AIR answers its plain result, which satisfies the constraints, if no row has
-- a fault. Otherwise it refuses the first fault. It may also run out of memory.
abbrev pub AnswersGeneration : {F K : Type 0} → Extension F K → AirTraces F → List (Lookup F) → List K → Result (Matrix K × Option (LookupTerminal K)) LookupError → Type 0
AnswersGeneration E traces lookups challenges result =
    let denominator = key_denominator E challenges in
    let rows = sent_rows E.base E.base_eq traces lookups in
    MatchResult result
    (λ r. (r.0 ≡ plain_matrix E denominator lookups rows)
    × (r.1 ≡ plain_terminal_of E denominator lookups rows)
    × (trace_faults E denominator rows ≡ [])
    × IsSatisfied E traces lookups challenges r.0 r.1)
    (λ e. (e ≡ Memory) ⊎ (slice_get (trace_faults E denominator rows) 0 ≡ Some e))
