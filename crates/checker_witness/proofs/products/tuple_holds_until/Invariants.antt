use Rattle.std.proofs.Common.{ℕ, ◌<◌, ◌≤◌}
use Rattle.checker_witness.specs.internal.Products.{HasMultiplicity}
use Rattle.checker_witness.proofs.products.tuple_holds_until.Given as goal

abbrev pub invariant-loop-row : goal.invariant-loop-row
invariant-loop-row g l =
    (s : ℕ) → l.fn.first ≤ s → s < l.row → HasMultiplicity g.F.PrimeCharacteristicRing.ring g.EF.PrimeCharacteristicRing.ring g.EF.ExtensionDomain.embed l.branch l.aux l.column l.fn.first s
