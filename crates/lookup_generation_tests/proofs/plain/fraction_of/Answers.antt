use Rattle.std.proofs.Common.{List, take, drop, ◌+◌, [], ◌∷◌, ap, sym, ◌∙◌, subst, arith}
use Rattle.std.proofs.lemmas.List.{length-map, take_all}
use Rattle.list_laws.proofs.Images.{mapped_at}
use Rattle.list_laws.proofs.Items.{split_at}
use Rattle.lookup_model.specs.Denominators.{key_denominator}
use Rattle.field.specs.laws.Extension.{of_laws}
use Rattle.lookup_model.specs.Fault.{vanishes}
use Rattle.lookup_model.specs.Message.{Message}
use Rattle.lookup_model.specs.Plain.{counted_messages}
use Rattle.lookup_generation_tests.specs.PlainProgram.{as_message, as_messages}
use Rattle.lookup_generation_tests.specs.internal.PlainProgram.{IsSumOfQuotients}
use Rattle.lookup_generation_tests.proofs.PlainProgramLaws.{fraction_of_both, messages-more, vanishes_among}
use Rattle.lookup_generation_tests.proofs.plain.fraction_of.Goals as goal

pub returns-in_err-quotient_of : goal.returns-in_err-quotient_of
returns-in_err-quotient_of g c =
    let laws = g.met.EF.ExtensionField.lawful_fields in
    let E = of_laws laws in
    let denominator = key_denominator E c.args.challenges.now in
    let ms = c.args.messages.now in
    let i = c.loop-message.message-index in
    let m = c.message-item.result in
    let split = split_at (as_messages ms) i (as_message m) (omega (arith, c.loop-message-test.true, length-map ms as_message)) (mapped_at as_message ms i m c.loop-message-test.true c.message-item.is) in
    rw c.from_residual.ensures (ap (λ ns. vanishes E denominator (counted_messages E.base E.base_eq ns)) split ∙ vanishes_among laws denominator (take i (as_messages ms)) (as_message m ∷ []) (drop (i + 1) (as_messages ms)) c.in_err-quotient_of.ensures)

pub loop-message-preserved : goal.loop-message-preserved
loop-message-preserved g c =
    let laws = g.met.EF.ExtensionField.lawful_fields in
    let E = of_laws laws in
    let denominator = key_denominator E c.args.challenges.now in
    let ms = c.args.messages.now in
    let i = c.loop-message.message-index in
    let m = c.message-item.result in
    subst (λ (ns : List (Message _)). IsSumOfQuotients E denominator ns c.add-sum.result) (sym (messages-more ms i m c.loop-message-test.true c.message-item.is))
    (fraction_of_both laws denominator (as_messages (take i ms)) (as_message m ∷ []) c.loop-message.sum c.in_ok-quotient_of.field-0 c.add-sum.result (g.met.EF.PrimeCharacteristicRing.add_is _ _ _ c.add-sum.ensures) c.loop-message.invariant c.in_ok-quotient_of.ensures)

pub returns : goal.returns
returns g c =
    let E = of_laws g.met.EF.ExtensionField.lawful_fields in
    let denominator = key_denominator E c.args.challenges.now in
    let all = subst (λ (ns : List _). IsSumOfQuotients E denominator (as_messages ns) c.loop-message.sum) (take_all c.loop-message.message-index c.args.messages.now (omega (arith, c.loop-message-test.false))) c.loop-message.invariant in
    (all.value, all.divides)
