use Rattle.std.proofs.Common.{◌≡◌, ◌<◌, ◌≤◌, ℕ, All, length, take}
use Rattle.lookup_columns.specs.internal.ChunkColumns.{AreSelected, selected_rows}
use Rattle.lookup_columns.proofs.rows.selected_rows.Given as goal

abbrev pub invariant-loop-i : goal.invariant-loop-i
invariant-loop-i g l =
    let so_far = take l.count l.selected.items in
    (length l.indices.items ≡ length l.rows)
    × (so_far ≡ selected_rows g.F.PrimeCharacteristicRing.ring g.F.PartialEq.eq (take l.i l.flags) (take l.i l.rows))
    × AreSelected g.F.PrimeCharacteristicRing.ring (take l.i l.flags) (take l.i l.rows) (take l.i l.indices.items) so_far
    × ((n : ℕ) → All (λ r. r < n) l.rows → All (λ r. r < n) so_far)
    × (length l.selected.items ≡ length l.rows)
    × (l.count ≤ l.i)
