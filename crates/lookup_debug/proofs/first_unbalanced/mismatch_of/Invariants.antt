use Rattle.std.proofs.Common.{◌≡◌, ◌<◌, ℕ, Some, map, slice_get}
use Rattle.lookup_debug.specs.Contributions.{traced_of}
use Rattle.lookup_debug.specs.Groups.{Group, groups}
use Rattle.lookup_debug.specs.Mismatch.{Balances}
use Rattle.lookup_debug.proofs.first_unbalanced.mismatch_of.Given as goal

abbrev pub invariant-loop-group : goal.invariant-loop-group
invariant-loop-group g l =
    let R = g.F.PrimeCharacteristicRing.ring in
    let eq = g.F.PartialEq.eq in
    (i : ℕ) (h : Group _) → i < l.group-index → slice_get (groups R eq (map traced_of l.instances)) i ≡ Some h → Balances R eq h.contributions
