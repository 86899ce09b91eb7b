use Rattle.std.proofs.Common.{List, sym, subst}
use Rattle.air_expressions.specs.declared.variable.SymbolicVariable.{SymbolicVariable}
use Rattle.air_constraints.specs.Facts.{AreBits}
use Rattle.air_constraints.specs.Polynomials.{sum_at}
use Rattle.air_constraints.proofs.BoundLaws.{within-range}
use Rattle.air_constraints.proofs.bounds.bound_of.Goals as goal

pub returns-then-one : goal.returns-then-one
returns-then-one g c = λ w so. c.in_ok-one.ensures c.if-one.true w so

pub returns-in-Some : goal.returns-in-Some
returns-in-Some g c = λ w so.
    let R = g.F.PrimeCharacteristicRing.ring in
    let P : List (SymbolicVariable g.row.F.Denot) → Type 0 = AreBits R w in
    within-range g.F.PrimeCharacteristicRing.lawful c.in-Some.found c.most.result (sum_at R w c.args.terms.now) c.most.ensures.0 c.most.ensures.1
    (c.in-Some.ensures w (subst P (sym c.as_slice.ensures.value) so.bits))
