use Rattle.std.proofs.Common.{List, map, take, [], ◌∷◌, ap, sym, ◌∙◌, subst, arith}
use Rattle.std.proofs.lemmas.List.{length-map, map-append, take_all}
use Rattle.list_laws.proofs.Images.{mapped_at}
use Rattle.lookup_model.specs.Denominators.{key_denominator}
use Rattle.field.specs.laws.Extension.{of_laws}
use Rattle.lookup_model.specs.Fault.{vanishes}
use Rattle.lookup_model.specs.Message.{Key, Message}
use Rattle.lookup_model.specs.Plain.{counted_messages}
use Rattle.lookup_generation_tests.specs.PlainProgram.{as_message, as_messages}
use Rattle.lookup_generation_tests.specs.internal.PlainProgram.{IsSumOfQuotients, net_message}
use Rattle.lookup_generation_tests.proofs.PlainProgramLaws.{fraction_of_both, keys-new, keys-seen, keys_of, sum_of_nets, vanishing_net, vanishing_nets}
use Rattle.lookup_generation_tests.proofs.plain.terminal_of.Goals.{then-not-holds+in_ok-quotient_of, else-not-holds}
use Rattle.lookup_generation_tests.proofs.plain.terminal_of.Goals as goal

pub returns-in_err-quotient_of : goal.returns-in_err-quotient_of
returns-in_err-quotient_of g c =
    let laws = g.met.EF.ExtensionField.lawful_fields in
    let E = of_laws laws in
    let denominator = key_denominator E c.args.challenges.now in
    let ms = c.args.messages.now in
    let i = c.loop-index.index in
    let m = c.index-messages-index.result in
    let alone = λ (n : _). vanishes E denominator (counted_messages E.base E.base_eq (record { key = (as_message m).key; multiplicity = n } ∷ [])) in
    rw c.from_residual.ensures (vanishing_net laws denominator (as_messages ms) i (as_message m) (omega (arith, c.loop-index-test.true, length-map ms as_message)) (mapped_at as_message ms i m c.loop-index-test.true c.index-messages-index.is) (ap alone (sym c.net_of.ensures) ∙ c.in_err-quotient_of.ensures))

pub loop-index-preserved : goal.loop-index-preserved
loop-index-preserved g c =
    let laws = g.met.EF.ExtensionField.lawful_fields in
    let E = of_laws laws in
    let denominator = key_denominator E c.args.challenges.now in
    let ms = c.args.messages.now in
    let i = c.loop-index.index in
    let m = c.index-messages-index.result in
    let with_net = net_message E.base E.base_eq (as_messages ms) in
    let has = λ (ks : List (Key _)). IsSumOfQuotients E denominator (map with_net ks) c.if-not-holds.sum in
    elim c.if-not-holds.branch [
      | then-not-holds+in_ok-quotient_of w ↦
          let before = keys_of laws denominator (take i ms) in
          let key = (as_message m).key in
          let alone = λ (n : _). IsSumOfQuotients E denominator (record { key = key; multiplicity = n } ∷ []) w.in_ok-quotient_of.field-0 in
          subst has (sym (keys-new laws denominator ms i m c.loop-index-test.true c.index-messages-index.is (sym c.holds.ensures ∙ w.if-not-holds.true)))
          (subst (λ (ns : List (Message _)). IsSumOfQuotients E denominator ns c.if-not-holds.sum) (sym (map-append with_net before (key ∷ [])))
          (fraction_of_both laws denominator (map with_net before) (with_net key ∷ []) c.loop-index.sum w.in_ok-quotient_of.field-0 c.if-not-holds.sum (w.sum-is ∙ g.met.EF.PrimeCharacteristicRing.add_is _ _ _ w.add-sum.ensures) c.loop-index.invariant (subst alone w.net_of.ensures w.in_ok-quotient_of.ensures)))
      | else-not-holds w ↦
          subst has (sym (keys-seen laws denominator ms i m c.loop-index-test.true c.index-messages-index.is (sym c.holds.ensures ∙ w.if-not-holds.false)))
          (subst (λ (sum : _). IsSumOfQuotients E denominator (map with_net (keys_of laws denominator (take i ms))) sum) (sym w.sum-is) c.loop-index.invariant)
    ]

pub returns : goal.returns
returns g c =
    let laws = g.met.EF.ExtensionField.lawful_fields in
    let E = of_laws laws in
    let denominator = key_denominator E c.args.challenges.now in
    let ms = c.args.messages.now in
    let all = subst (λ (ns : List _). IsSumOfQuotients E denominator (map (net_message E.base E.base_eq (as_messages ms)) (keys_of laws denominator ns)) c.loop-index.sum) (take_all c.loop-index.index ms (omega (arith, c.loop-index-test.false))) c.loop-index.invariant in
    (all.value ∙ sum_of_nets laws denominator (as_messages ms), sym (vanishing_nets laws denominator (as_messages ms)) ∙ all.divides)
