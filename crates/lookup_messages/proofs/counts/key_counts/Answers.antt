use Rattle.std.proofs.Common.{length, filter, map, not, ap, sym, ◌∙◌}
use Rattle.std.proofs.Math.ListN.{length-map}
use Rattle.lookup_model.specs.Net.{keys, net}
use Rattle.lookup_messages.specs.SentMessages.{messages_of}
use Rattle.lookup_messages.specs.Entries.{key_of}
use Rattle.lookup_messages.proofs.NetEntries.{counted-values, values-viewed}
use Rattle.lookup_messages.proofs.counts.key_counts.Goals as goal

pub returns-clause-unbalanced : goal.returns-clause-unbalanced
returns-clause-unbalanced g c =
    let R = g.F.PrimeCharacteristicRing.ring in
    let eq = g.F.PartialEq.eq in
    let ms = messages_of c.args.messages.now in
    let nonzero = λ (v : _). not (eq v R.zero) in
    c.nonzero_count-nonzero.ensures
    ∙ ap (λ vs. length (filter nonzero vs)) (values-viewed key_of c.in_ok-nets.nets.entries ∙ ap (map (λ e. e.1)) c.in_ok-nets.ensures)
    ∙ counted-values nonzero (net R eq ms) (keys eq ms)

pub returns-clause-all : goal.returns-clause-all
returns-clause-all g c =
    let ms = messages_of c.args.messages.now in
    c.len.ensures.len
    ∙ sym (length-map c.in_ok-nets.nets.entries (λ e. (key_of e.0, e.1)))
    ∙ ap length c.in_ok-nets.ensures
    ∙ length-map (keys g.F.PartialEq.eq ms) (λ k. (k, net g.F.PrimeCharacteristicRing.ring g.F.PartialEq.eq ms k))
