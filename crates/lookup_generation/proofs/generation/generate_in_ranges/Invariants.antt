use Rattle.std.proofs.Common.{drop}
use Rattle.air.specs.Traces.{height_of, traces_of}
use Rattle.field.specs.laws.Extension.{of_laws}
use Rattle.lookup_model.specs.Denominators.{key_denominator}
use Rattle.lookup_model.specs.Trace.{sent_rows}
use Rattle.lookup_generation.specs.Ranges.{AreEnds}
use Rattle.lookup_generation.specs.internal.Progress.{HasRows}
use Rattle.lookup_generation.proofs.generation.generate_in_ranges.Given as goal

abbrev pub invariant-loop-end : goal.invariant-loop-end
invariant-loop-end g l =
    let E = of_laws g.met.EF.ExtensionField.lawful_fields in
    AreEnds l.first (drop l.end-index l.ends) (height_of (traces_of l.traces))
    × HasRows E (key_denominator E l.challenges) (sent_rows E.base E.base_eq (traces_of l.traces) l.lookups) l.first l.cells.items l.sum
