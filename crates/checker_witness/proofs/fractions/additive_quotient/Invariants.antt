use Rattle.std.proofs.Common.{◌∷◌, List, None, take}
use Rattle.std.specs.List.{AllZip}
use Rattle.lookup_columns.specs.ChunkColumns.{IsStored}
use Rattle.field.specs.laws.Extension.{of_laws}
use Rattle.lookup_model.specs.Message.{Message}
use Rattle.checker_witness.specs.internal.Quotients.{IsQuotientOf, over_tuples}
use Rattle.checker_witness.proofs.fractions.additive_quotient.Given as goal

-- of the first message and those beside the other columns so far
abbrev pub invariant-loop-branch : goal.invariant-loop-branch
invariant-loop-branch g l =
    (denominator : List _ → _) (m : Message _) (messages : List (Message _)) → AllZip (IsStored (over_tuples denominator) l.index) l.columns (m ∷ messages)
    → IsQuotientOf (of_laws g.met.EF.ExtensionField.lawful_fields) denominator None (m ∷ take l.branch-index messages) l.quotient
