use Rattle.std.proofs.Common.{◌≡◌, ◌+◌, ◌<◌, ℕ, get_or, length}
use Rattle.checker_witness.specs.internal.Products.{fraction_on}
use Rattle.checker_witness.proofs.products.fill_products.Given as goal

abbrev pub invariant-loop-i : goal.invariant-loop-i
invariant-loop-i g l =
    let S = g.EF.PrimeCharacteristicRing.ring in
    (length l.products ≡ length l.initial.products)
    × ((k : ℕ) → k < l.i → get_or l.products k S.zero ≡ S.mul (get_or l.denominators k S.zero) (fraction_on S l.aux l.column (l.first + k)))
