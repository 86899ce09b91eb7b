use Rattle.std.proofs.Common.{sym, ap, ◌∙◌}
use Rattle.std.specs.Cmp.Lexicographic.{nat_list_cmp_total, slice_cmp}
use Rattle.std.specs.Ordering.{nat_cmp}
use Rattle.lookup_debug.proofs.FirstMismatch.{same-equal}
use Rattle.lookup_debug.proofs.first.element_order.Goals as goal

pub returns-then-eq : goal.returns-then-eq
returns-then-eq g c =
    let text = g.F.Field.text in
    let same = (g.met.F.PrimeCharacteristicRing.eq_is c.args.a c.args.b).0 (sym c.eq.ensures ∙ c.if-eq.true) in
    sym (same-equal nat_list_cmp_total (text c.args.a)) ∙ ap (λ b. slice_cmp nat_cmp (text c.args.a) (text b)) same
