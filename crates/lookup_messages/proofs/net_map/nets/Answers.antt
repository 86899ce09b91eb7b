use Rattle.std.proofs.Common.{refl, take, ap, sym, ◌∙◌, arith}
use Rattle.std.proofs.lemmas.List.{take_all}
use Rattle.list_laws.proofs.Images.{images_more}
use Rattle.lookup_model.specs.Message.{same_key}
use Rattle.lookup_model.proofs.Lookups.KeyLaws.{same_key-Decides}
use Rattle.lookup_messages.specs.SentMessages.{message_of, messages_of}
use Rattle.lookup_messages.specs.Entries.{key_entries, key_of, nets_of}
use Rattle.lookup_messages.proofs.NetEntries.{one_more}
use Rattle.lookup_messages.proofs.net_map.nets.Goals as goal

pub loop-message-preserved : goal.loop-message-preserved
loop-message-preserved g c =
    let R = g.F.PrimeCharacteristicRing.ring in
    let eq = g.F.PartialEq.eq in
    let ms = c.args.messages.now in
    let i = c.loop-message.message-index in
    let m = c.message-item.result in
    ap key_entries c.in_ok-add_at.ensures.adds
    ∙ one_more (same_key eq) (same_key-Decides eq g.met.F.PrimeCharacteristicRing.eq_is) key_of g.F.PrimeCharacteristicRing.lawful (λ n. n.key) (λ n. n.multiplicity) (messages_of (take i ms)) (message_of m) c.loop-message.nets.entries _ _ _ c.loop-message.invariant
    (λ j. record { id = m.id; tuple = c.as_slice.ensures.value j }) refl refl
    ∙ ap (nets_of R eq) (sym (images_more message_of ms i m c.loop-message-test.true c.message-item.is))

pub returns : goal.returns
returns g c =
    let ms = c.args.messages.now in
    c.loop-message.invariant ∙ ap (λ t. nets_of g.F.PrimeCharacteristicRing.ring g.F.PartialEq.eq (messages_of t)) (take_all c.loop-message.message-index ms (omega (arith, c.loop-message-test.false)))
