use Rattle.std.proofs.Common.{take}
use Rattle.lookup_model.specs.Denominators.{key_denominator}
use Rattle.field.specs.laws.Extension.{of_laws}
use Rattle.lookup_generation_tests.specs.PlainProgram.{as_messages}
use Rattle.lookup_generation_tests.specs.internal.PlainProgram.{IsSumOfQuotients}
use Rattle.lookup_generation_tests.proofs.plain.fraction_of.Given as goal

abbrev pub invariant-loop-message : goal.invariant-loop-message
invariant-loop-message g l =
    let E = of_laws g.met.EF.ExtensionField.lawful_fields in
    IsSumOfQuotients E (key_denominator E l.challenges) (as_messages (take l.message-index l.messages)) l.sum
