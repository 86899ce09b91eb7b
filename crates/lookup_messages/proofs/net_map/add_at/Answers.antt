use Rattle.std.proofs.Common.{ap, rules, unwrap_or, ◌≡◌, ◌∙◌}
use Rattle.std.specs.HashMap.{get}
use Rattle.lookup_messages.proofs.net_map.add_at.Goals as goal

pub returns-clause-adds : goal.returns-clause-adds
returns-clause-adds g c =
    let R = g.F.PrimeCharacteristicRing.ring in
    let found = get g.K.PartialEq.eq c.args.nets.now c.args.key in
    let now : c.or_insert-net.result.now ≡ unwrap_or found R.zero =
    c.or_insert-net.ensures.value ∙ ap (λ o. unwrap_or o c.ZERO.result) c.in_ok-nets.ensures.value ∙ ap (unwrap_or found) (c.ZERO.ensures ∙ g.met.F.PrimeCharacteristicRing.zero_is) in
    let sum : c.add.result ≡ R.add (unwrap_or found R.zero) c.args.amount =
    g.met.F.PrimeCharacteristicRing.add_is _ _ _ c.add.ensures ∙ ap (λ t. R.add t c.args.amount) now in
    rw (← sum) (search rules)
