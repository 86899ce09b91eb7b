use Rattle.std.proofs.Common.{◌≡◌, ◌≤◌, ℕ, get_or, length, map, take}
use Rattle.std.specs.List.{zip}
use Rattle.field.specs.Ring.{sub_in}
use Rattle.lookup_columns.proofs.denominators.lessen.Given as goal

abbrev pub invariant-loop-i : goal.invariant-loop-i
invariant-loop-i g l =
    let S = g.EF.PrimeCharacteristicRing.ring in
    let lessened = map (λ p. sub_in S p.0 (S.mul l.power (g.EF.ExtensionDomain.embed p.1))) (zip l.initial.elements l.column) in
    (length l.elements ≡ length l.initial.elements)
    × (length l.initial.elements ≡ length l.column → take l.i l.elements ≡ take l.i lessened)
    × ((j : ℕ) (d : g.row.EF.Denot) → l.i ≤ j → get_or l.elements j d ≡ get_or l.initial.elements j d)
