use Rattle.std.proofs.Common.{List, sym, subst, refl}
use Rattle.list_laws.proofs.Each.{All-at}
use Rattle.air_expressions.specs.declared.variable.SymbolicVariable.{SymbolicVariable}
use Rattle.air_constraints.specs.Facts.{AreApart}
use Rattle.air_constraints.proofs.exclusive_sums.is_sum_in.Goals as goal

pub returns-then-are_bits_of : goal.returns-then-are_bits_of
returns-then-are_bits_of g c = λ t w bits all.
    let R = g.F.PrimeCharacteristicRing.ring in
    let P : List (SymbolicVariable g.row.F.Denot) → Type 0 = AreApart R w in
    c.if-are_bits_of.ensures refl w bits (subst P (sym c.as_slice.ensures.value) (All-at (λ l. AreApart R w l.items) c.args.lists.now c.loop-list.list-index c.list-item.result all c.loop-list-test.true c.list-item.is))
