use Rattle.std.proofs.Common.{sym, ◌∙◌}
use Rattle.field.specs.laws.Extension.{of_laws}
use Rattle.lookup_model.proofs.Lookups.Terminals.{net_sum-messages}
use Rattle.lookup_model.specs.Plain.{quotient, trace_messages}
use Rattle.lookup_model.specs.Trace.{sent_rows_under}
use Rattle.lookup.proofs.KeptLaws.{trace_kept}
use Rattle.lookup.proofs.RearrangedSums.{sum_in-permutation}
use Rattle.lookup.proofs.packing.terminals.messages_keep_terminals.Goals as goal

pub returns : goal.returns
returns g c = λ before after kept id_before id_after same traces denominator.
    let laws = g.met.EF.ExtensionField.lawful_fields in
    let E = of_laws laws in
    let first = trace_messages (sent_rows_under E.base E.base_eq id_before traces before) in
    let second = trace_messages (sent_rows_under E.base E.base_eq id_after traces after) in
    net_sum-messages laws denominator second
    ∙ sum_in-permutation laws.ring (λ m. quotient E denominator m.multiplicity m.key) first second (trace_kept E.base E.base_eq before after kept id_before id_after same traces)
    ∙ sym (net_sum-messages laws denominator first)
