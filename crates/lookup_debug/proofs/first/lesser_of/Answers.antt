use Rattle.std.proofs.Common.{not, ap, sym, subst, ◌∙◌}
use Rattle.lookup_debug.specs.internal.Nets.{IsFirstIndex}
use Rattle.lookup_debug.proofs.FirstMismatch.{best_past_failing, first_passing, lesser_is_least, least_stays, Less-from_eq, Less-from_ne}
use Rattle.lookup_debug.proofs.first.lesser_of.Goals as goal

pub returns-then-eq : goal.returns-then-eq
returns-then-eq g c =
    let eq = g.F.PartialEq.eq in
    let entry = c.entry_at-net.result in
    let zero = ap (eq entry.1) (sym (c.ZERO.ensures ∙ g.met.F.PrimeCharacteristicRing.zero_is)) in
    best_past_failing g.F.PrimeCharacteristicRing.ring eq g.F.Field.text c.args.nets.now.entries c.args.index entry c.entry_at-net.ensures c.args.best
    (ap not (zero ∙ sym c.eq.ensures ∙ c.if-eq.true)) c.requires.best

pub returns-in_default : goal.returns-in_default
returns-in_default g c =
    let R = g.F.PrimeCharacteristicRing.ring in
    let eq = g.F.PartialEq.eq in
    let es = c.args.nets.now.entries in
    let entry = c.entry_at-net.result in
    let zero = ap (eq entry.1) (sym (c.ZERO.ensures ∙ g.met.F.PrimeCharacteristicRing.zero_is)) in
    first_passing R eq g.F.Field.text es c.args.index entry c.entry_at-net.ensures (ap not (zero ∙ sym c.eq.ensures ∙ c.if-eq.false))
    (subst (IsFirstIndex R eq g.F.Field.text es c.args.index) c.in_default.is c.requires.best)

pub returns-then-eq-2 : goal.returns-then-eq-2
returns-then-eq-2 g c =
    let R = g.F.PrimeCharacteristicRing.ring in
    let eq = g.F.PartialEq.eq in
    let es = c.args.nets.now.entries in
    let entry = c.entry_at-net.result in
    let zero = ap (eq entry.1) (sym (c.ZERO.ensures ∙ g.met.F.PrimeCharacteristicRing.zero_is)) in
    let less = sym c.in_ok-text_order.ensures ∙ Less-from_eq c.in_ok-text_order.field-0 (sym c.eq-2.ensures ∙ c.if-eq-2.true) in
    lesser_is_least R eq g.F.Field.text es c.args.index entry c.entry_at-net.ensures c.in-Some.least c.entry_at.result c.entry_at.ensures
    (ap not (zero ∙ sym c.eq.ensures ∙ c.if-eq.false)) less (subst (IsFirstIndex R eq g.F.Field.text es c.args.index) c.in-Some.is c.requires.best)

pub returns-else-eq-2 : goal.returns-else-eq-2
returns-else-eq-2 g c =
    let R = g.F.PrimeCharacteristicRing.ring in
    let eq = g.F.PartialEq.eq in
    let es = c.args.nets.now.entries in
    least_stays R eq g.F.Field.text es c.args.index c.entry_at-net.result c.entry_at-net.ensures c.in-Some.least c.entry_at.result c.entry_at.ensures
    (λ less. Less-from_ne c.in_ok-text_order.field-0 (sym c.eq-2.ensures ∙ c.if-eq-2.false) (c.in_ok-text_order.ensures ∙ less))
    (subst (IsFirstIndex R eq g.F.Field.text es c.args.index) c.in-Some.is c.requires.best)
