use Rattle.std.proofs.Common.{◌≡◌, ℕ, inr, length, subst, subst₂, sym, ap, ◌∙◌}
use Rattle.std.proofs.lemmas.Result.{MatchResult-weaker}
use Rattle.field.specs.Characteristic.{HasCharacteristic}
use Rattle.field.specs.laws.Extension.{of_laws}
use Rattle.lookup_model.specs.Net.{keys, unbalanced_keys}
use Rattle.lookup_messages.specs.SentMessages.{messages_of}
use Rattle.lookup_model.specs.Batches.Counts.{message_count, unbalanced_count}
use Rattle.lookup_model.specs.Batches.Instances.{instances_of}
use Rattle.lookup_model.specs.Batches.Messages.{AreFlagsLawful}
use Rattle.checker_batches.specs.Collected.{IsCountOf}
use Rattle.lookup_model.proofs.Counting.LawfulFlags.{lawful_flags}
use Rattle.lookup_model.proofs.Counting.Soundness.{counted_sound, linearly_sound}
use Rattle.checker_batches.proofs.CountLaws.{if_ok}
use Rattle.checker_witness.proofs.InstanceLaws.{fitting_all}
use Rattle.checker_batches.proofs.counting.soundness_count.Goals as goal

pub returns-clause-answer : goal.returns-clause-answer
returns-clause-answer g c =
    let E = of_laws g.met.EF.ExtensionField.lawful_fields in
    let instances = instances_of c.args.instances.now in
    let is = ap messages_of c.as_slice.ensures.value ∙ c.in_ok-messages.ensures.0 in
    let lawful : AreFlagsLawful E.base E.base_eq instances = lawful_flags E.base E.base_eq instances c.in_ok-messages.ensures.1 in
    let n : c.in_ok-keys.keys ≡ message_count E instances = c.in_ok-keys.ensures.all ∙ ap (λ ms. length (keys E.base_eq ms)) is in
    let k : c.in_ok-keys.unbalanced ≡ unbalanced_count E instances = c.in_ok-keys.ensures.unbalanced ∙ ap (λ ms. length (unbalanced_keys E.base E.base_eq ms)) is in
    MatchResult-weaker c.soundness_of_counts.result (subst₂ (λ (a b : ℕ). IsCountOf a b c.args.max_message_width c.soundness_of_counts.result) n k c.soundness_of_counts.ensures)
    (λ count h. (lawful, record { messages = h.0; unbalanced_is = h.1; bad_betas = h.2; accepting_alphas = h.3 }))
    (λ fault h. inr (inr (lawful, record { air = h.0; error = h.1; large = h.2 })))

pub returns-clause-sound : goal.returns-clause-sound
returns-clause-sound g c =
    let laws = g.met.EF.ExtensionField.lawful_fields in
    let E = of_laws laws in
    let char = subst (HasCharacteristic E.ring) (sym g.met.EF.ExtensionDomain.same_characteristic) g.met.EF.PrimeCharacteristicRing.characteristic in
    if_ok c.soundness_of_counts.result (counted_sound laws c.args.max_message_width _ _ char _ (fitting_all c.args.instances.now c.requires.fit) c.requires.ids.1 (lawful_flags E.base E.base_eq _ c.in_ok-messages.ensures.1))

pub returns-clause-linear : goal.returns-clause-linear
returns-clause-linear g c =
    let laws = g.met.EF.ExtensionField.lawful_fields in
    let E = of_laws laws in
    let char = subst (HasCharacteristic E.ring) (sym g.met.EF.ExtensionDomain.same_characteristic) g.met.EF.PrimeCharacteristicRing.characteristic in
    if_ok c.soundness_of_counts.result (linearly_sound laws c.args.max_message_width _ _ char _ (fitting_all c.args.instances.now c.requires.fit) c.requires.ids.1 (lawful_flags E.base E.base_eq _ c.in_ok-messages.ensures.1))
