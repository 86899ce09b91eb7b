-- Integers modulo 2.
use Rattle.std.specs.Prelude.{◌≡◌, ◌≢◌}
use Rattle.std.proofs.Common.{arith}
use Rattle.field.specs.internal.IntegersModulo2.{f2_of, f2_ring}
use Rattle.field.specs.Residue.{Residue, residue_same}

-- One that is not zero is one.
pub one_of_nonzero : (a : Residue 2) → a ≢ f2_ring.zero → a ≡ f2_of 1
one_of_nonzero a n =
    let below = a.below in
    let differs : a.value ≢ 0 = λ e. n (residue_same a f2_ring.zero e) in
    residue_same a (f2_of 1) (omega arith)
