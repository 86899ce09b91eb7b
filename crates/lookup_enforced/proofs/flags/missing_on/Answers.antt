use Rattle.std.proofs.Common.{◌≡◌, ◌<◌, IfSome, Option, Vec, Global, List, length, map, take_all, ap, subst, ◌∙◌, arith}
use Rattle.std.proofs.lemmas.List.{length-map}
use Rattle.std.specs.List.{AllByRecursion}
use Rattle.air_constraints.specs.internal.Bits.{sum_of}
use Rattle.air_constraints.specs.Facts.{IsBit}
use Rattle.air_constraints.specs.Polynomials.{sum_at}
use Rattle.air_constraints.specs.declared.term.Term.{Term}
use Rattle.air_expressions.specs.declared.base_expression.SymbolicExpression.{SymbolicExpression}
use Rattle.lookup_model.specs.Sent.{value}
use Rattle.lookup_enforced.proofs.FlagLaws.{flags_more, lawful_from_sum}
use Rattle.lookup_enforced.proofs.flags.missing_on.Goals as goal

pub loop-flag-preserved : goal.loop-flag-preserved
loop-flag-preserved g c = λ w known.
    let R = g.F.PrimeCharacteristicRing.ring in
    let flag = c.index-flags-flag.result in
    let bits : Option (Vec (Term g.row.F.Denot) Global) → Type 0 = λ o. IfSome o (λ terms. (sum_at R w terms.items ≡ value R w flag) × IsBit R (sum_at R w terms.items)) in
    let bit : (sum_at R w c.in-Some.terms.items ≡ value R w flag) × IsBit R (sum_at R w c.in-Some.terms.items) = subst bits c.in-Some.is (c.in_ok-terms.ensures w known) in
    let sums : Option (Vec (Term g.row.F.Denot) Global) → Type 0 = λ o. IfSome o (λ more. sum_at R w more.items ≡ R.add (sum_at R w c.as_slice.result.now) (sum_at R w c.loop-flag.sum.items)) in
    let sum : sum_at R w c.in-Some-2.more.items ≡ R.add (sum_at R w c.as_slice.result.now) (sum_at R w c.loop-flag.sum.items) = subst sums c.in-Some-2.is (c.in_ok-more.ensures w known) in
    flags_more g.F.PrimeCharacteristicRing.lawful g.met.F.Domain.domain (value R w) c.args.flags.now c.loop-flag.flag flag _ _ (sum_at R w c.in-Some.terms.items) c.loop-flag-test.true c.index-flags-flag.is
    (c.loop-flag.invariant w known) bit (sum ∙ ap (λ ts. R.add (sum_at R w ts) (sum_at R w c.loop-flag.sum.items)) c.as_slice.ensures.value)

pub returns : goal.returns
returns g c = λ none w known.
    let R = g.F.PrimeCharacteristicRing.ring in
    let flags = c.args.flags.now in
    let v = value R w in
    let all = take_all c.loop-flag.flag flags c.loop-flag-test.false in
    let I : g.row.F.Denot → Type 0 = IsBit R in
    let P : List (SymbolicExpression g.row.F.Denot) → Type 0 = λ fs. AllByRecursion (IsBit R) (map v fs) × (sum_at R w c.loop-flag.sum.items ≡ sum_of R (map v fs)) in
    let bits : AllByRecursion (IsBit R) (map v flags) × (sum_at R w c.loop-flag.sum.items ≡ sum_of R (map v flags)) = subst P all (c.loop-flag.invariant w known) in
    let lt : length (map v flags) < g.F.PrimeCharacteristicRing.CHARACTERISTIC = omega (arith, c.if-count-CHARACTERISTIC.false, c.CHARACTERISTIC.ensures, length-map flags v) in
    lawful_from_sum g.F.PrimeCharacteristicRing.lawful g.met.F.Domain.domain g.F.PartialEq.eq g.met.F.PrimeCharacteristicRing.eq_is g.F.PrimeCharacteristicRing.CHARACTERISTIC (map v flags)
    g.met.F.PrimeCharacteristicRing.characteristic lt bits.0
    (subst I (ap (sum_at R w) c.as_slice-2.ensures.value ∙ bits.1) (c.in_ok-bit.ensures c.if-not-bit.false w known.1))
