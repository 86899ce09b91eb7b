use Rattle.std.proofs.Common.{List, take_all, refl, ap, subst}
use Rattle.air_constraints.specs.Bounds.{IsInRange}
use Rattle.air_constraints.specs.Facts.{IsBit}
use Rattle.air_constraints.specs.declared.term.Term.{Term}
use Rattle.air_constraints.specs.Polynomials.{product_at, sum_at}
use Rattle.air_constraints.proofs.BoundLaws.{range-none, range-term}
use Rattle.air_constraints.proofs.bounds.range_of.Goals as goal

pub loop-term-init : goal.loop-term-init
loop-term-init g c = λ w bits. range-none g.F.PrimeCharacteristicRing.lawful _ _ refl

pub loop-term-preserved : goal.loop-term-preserved
loop-term-preserved g c = λ w bits.
    let R = g.F.PrimeCharacteristicRing.ring in
    let t = c.term-item.result in
    let I : g.row.F.Denot → Type 0 = IsBit R in
    let lt = c.loop-term-test.true in
    range-term g.F.PrimeCharacteristicRing.lawful w c.loop-term.range c.in_ok-range.range c.in_ok-number.number c.args.terms.now c.loop-term.term-index t lt c.term-item.is c.in_ok-range.ensures c.in_ok-number.ensures
    (subst I (ap (product_at R w) c.as_slice.ensures.value) (c.if-not-are_bits.ensures refl w bits)) (c.loop-term.invariant w bits)

pub returns : goal.returns
returns g c = λ w bits.
    let R = g.F.PrimeCharacteristicRing.ring in
    let P : List (Term g.row.F.Denot) → Type 0 = λ ts. IsInRange R c.loop-term.range (sum_at R w ts) in
    subst P (take_all c.loop-term.term-index c.args.terms.now c.loop-term-test.false) (c.loop-term.invariant w bits)
