use Rattle.std.proofs.Common.{map, take}
use Rattle.lookup_model.specs.Denominators.{key_denominator}
use Rattle.field.specs.laws.Extension.{of_laws}
use Rattle.lookup_model.specs.Net.{keys}
use Rattle.lookup_generation_tests.specs.PlainProgram.{as_messages}
use Rattle.lookup_generation_tests.specs.internal.PlainProgram.{IsSumOfQuotients, net_message}
use Rattle.lookup_generation_tests.proofs.plain.terminal_of.Given as goal

abbrev pub invariant-loop-index : goal.invariant-loop-index
invariant-loop-index g l =
    let E = of_laws g.met.EF.ExtensionField.lawful_fields in
    IsSumOfQuotients E (key_denominator E l.challenges) (map (net_message E.base E.base_eq (as_messages l.messages)) (keys E.base_eq (as_messages (take l.index l.messages)))) l.sum
