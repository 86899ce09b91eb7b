use Rattle.std.proofs.Common.{List}
use Rattle.lookup_columns.specs.ChunkColumns.{StoreSelected}
use Rattle.field.specs.laws.Extension.{of_laws}
use Rattle.lookup_model.specs.Message.{Message}
use Rattle.checker_witness.proofs.SelectionLaws.{HasSums}
use Rattle.checker_witness.specs.internal.Quotients.{over_tuples}
use Rattle.checker_witness.proofs.fractions.exclusive_quotient.Given as goal

abbrev pub invariant-loop-branch : goal.invariant-loop-branch
invariant-loop-branch g l =
    let E = of_laws g.met.EF.ExtensionField.lawful_fields in
    (denominator : List _ → _) (flags : List _) (messages : List (Message _)) → StoreSelected E.base (over_tuples denominator) l.index l.columns flags messages
    → HasSums E denominator flags messages l.branch-index l.numerator l.denominator
