use Rattle.std.proofs.Common.{◌≡◌, IfSome, Option, Vec, Global, map, ap, subst, arith}
use Rattle.std.specs.List.{AllByRecursion}
use Rattle.air_expressions.specs.Meaning.{variable_value}
use Rattle.air_constraints.specs.internal.Bits.{sum_of}
use Rattle.air_constraints.specs.Facts.{IsBit}
use Rattle.air_constraints.specs.declared.term.Term.{Term}
use Rattle.air_constraints.specs.Polynomials.{sum_at}
use Rattle.air_constraints.proofs.BitLaws.{apart_from_sum}
use Rattle.air_constraints.proofs.exclusive.are_apart.Goals as goal

pub returns-in_ok-is_bit-in-Some : goal.returns-in_ok-is_bit-in-Some
returns-in_ok-is_bit-in-Some g c = λ t w so.
    let R = g.F.PrimeCharacteristicRing.ring in
    let cells = c.args.cells.now in
    let I : g.row.F.Denot → Type 0 = IsBit R in
    let P : Option (Vec (Term g.row.F.Denot) Global) → Type 0 = λ o. IfSome o (λ sum. AllByRecursion (λ v. IsBit R (variable_value R w v)) cells × (sum_at R w sum.items ≡ sum_of R (map (variable_value R w) cells))) in
    let known : AllByRecursion (λ v. IsBit R (variable_value R w v)) cells × (sum_at R w c.in-Some.sum.items ≡ sum_of R (map (variable_value R w) cells)) = subst P c.in-Some.is (c.in_ok-sum_of_bits.ensures w so) in
    apart_from_sum g.F.PrimeCharacteristicRing.lawful g.met.F.Domain.domain w g.F.PrimeCharacteristicRing.CHARACTERISTIC cells (sum_at R w c.in-Some.sum.items) g.met.F.PrimeCharacteristicRing.characteristic
    (omega (arith, c.if-count-CHARACTERISTIC.false, c.CHARACTERISTIC.ensures)) known
    (subst I (ap (sum_at R w) c.as_slice.ensures.value) (c.in_ok-is_bit-in-Some.ensures t w so))
