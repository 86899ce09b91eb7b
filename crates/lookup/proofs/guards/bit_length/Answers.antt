use Rattle.std.proofs.Common.{◌≡◌, ◌-◌, subst, arith}
use Rattle.std.proofs.lemmas.Nat.{leading_length}
use Rattle.std.specs.Int.Count.{count_leading_zeros}
use Rattle.lookup.specs.Guards.{IsBitLength}
use Rattle.lookup.proofs.guards.bit_length.Goals as goal

pub returns : goal.returns
returns c =
    let (m, whole, below, half) = leading_length 128 c.args.number c.ranges.number.fits in
    let digits : m ≡ 128 - count_leading_zeros 128 c.args.number = omega (arith, whole) in
    subst (IsBitLength c.args.number) digits (record { below = below; half = half })
