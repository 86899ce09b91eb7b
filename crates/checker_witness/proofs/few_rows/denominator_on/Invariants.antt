use Rattle.std.proofs.Common.{◌≡◌, ◌<◌, drop, length}
use Rattle.field.specs.Ring.{power}
use Rattle.field.specs.laws.Extension.{of_laws}
use Rattle.lookup_model.specs.Denominators.{tuple_denominator}
use Rattle.lookup_model.specs.Sent.{values}
use Rattle.checker_witness.specs.internal.TraceRows.{trace_window}
use Rattle.checker_witness.proofs.few_rows.denominator_on.Given as goal

abbrev pub invariant-loop-left : goal.invariant-loop-left
invariant-loop-left g l =
    let E = of_laws g.met.EF.ExtensionField.lawful_fields in
    (l.left < length l.tuple)
    × (0 < l.left → l.power ≡ power E.ring l.beta (length (drop l.left l.tuple)))
    × (l.denominator ≡ tuple_denominator E l.fn.alpha l.beta (values E.base (trace_window l.row) (drop l.left l.tuple)))

abbrev pub decreases-loop-left : goal.decreases-loop-left
decreases-loop-left g l = l.left
