use Rattle.field.specs.laws.Extension.{of_laws}
use Rattle.lookup_model.specs.Denominators.{tuple_denominator}
use Rattle.lookup_model.specs.Sent.{branches_at, values}
use Rattle.checker_witness.proofs.SelectionLaws.{HasSums}
use Rattle.checker_witness.specs.internal.TraceRows.{trace_window}
use Rattle.checker_witness.proofs.few_rows.exclusive_quotient_on.Given as goal

abbrev pub invariant-loop-branch : goal.invariant-loop-branch
invariant-loop-branch g l =
    let E = of_laws g.met.EF.ExtensionField.lawful_fields in
    let w = trace_window l.row in
    HasSums E (tuple_denominator E l.alpha l.beta) (values E.base w l.flags) (branches_at E.base w l.lookup.column l.lookup) l.branch l.numerator l.denominator
