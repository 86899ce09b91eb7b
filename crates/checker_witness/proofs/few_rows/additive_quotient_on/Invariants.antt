use Rattle.std.proofs.Common.{None, take}
use Rattle.field.specs.laws.Extension.{of_laws}
use Rattle.lookup_model.specs.Denominators.{tuple_denominator}
use Rattle.lookup_model.specs.Sent.{branches_at}
use Rattle.checker_witness.specs.internal.Quotients.{IsQuotientOf}
use Rattle.checker_witness.specs.internal.TraceRows.{trace_window}
use Rattle.checker_witness.proofs.few_rows.additive_quotient_on.Given as goal

abbrev pub invariant-loop-branch : goal.invariant-loop-branch
invariant-loop-branch g l =
    let E = of_laws g.met.EF.ExtensionField.lawful_fields in
    IsQuotientOf E (tuple_denominator E l.alpha l.beta) None (take l.branch (branches_at E.base (trace_window l.row) l.lookup.column l.lookup)) l.quotient
