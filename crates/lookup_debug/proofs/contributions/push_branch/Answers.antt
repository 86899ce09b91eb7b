use Rattle.std.proofs.Common.{◌≡◌, ◌∷◌, [], Bool, List, arith, cond, false, not, subst, sym, ap, ◌∙◌}
use Rattle.lookup_messages.specs.TraceBuilder.{builder_window}
use Rattle.lookup_model.specs.Sent.{values}
use Rattle.lookup_debug.specs.Contributions.{Contribution}
use Rattle.lookup_debug.specs.declared.arena.Contributions.{Contributions}
use Rattle.lookup_debug.specs.internal.Appended.{Appends}
use Rattle.lookup_debug.proofs.SpanLaws.{appends-span}
use Rattle.lookup_debug.proofs.contributions.push_branch.Goals as goal

pub returns : goal.returns
returns g c location =
    let R = g.F.PrimeCharacteristicRing.ring in
    let eq = g.F.PartialEq.eq in
    let before : Contributions _ = c.args.contributions.now in
    let after : Contributions _ = record { elements = c.push_tuple.new.elements; spans = c.push.new.self; limit = before.limit } in
    let tuple = values R (builder_window c.args.builder.now) c.args.tuple.now in
    let one : List (Contribution _) = record { tuple = tuple; amount = c.args.amount; location = location } ∷ [] in
    let zero_is : c.ZERO.result ≡ R.zero = c.ZERO.ensures ∙ g.met.F.PrimeCharacteristicRing.zero_is in
    let counts : eq c.args.amount R.zero ≡ false = ap (eq c.args.amount) (sym zero_is) ∙ (sym c.eq.ensures ∙ c.if-eq.false) in
    subst (λ (b : Bool). Appends before after (cond (not b) one [])) (sym counts)
    (appends-span before after tuple _ c.requires.within c.in_ok-push_tuple.ensures c.in_ok-push.ensures.items (omega (arith, c.len-start.ensures, before.elements.ok.0)) (omega (arith, c.len-end.ensures, after.elements.ok.0)))
