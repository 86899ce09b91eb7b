use Rattle.std.proofs.Common.{◌<◌, ◌≤◌, List, take}
use Rattle.std.specs.List.{AllZip}
use Rattle.lookup_columns.specs.ChunkColumns.{HasFlag}
use Rattle.lookup_generation.specs.internal.Flags.{AreNonzero}
use Rattle.lookup_generation.proofs.exclusive.nonzero_flags_at.Given as goal

abbrev pub invariant-loop-branch : goal.invariant-loop-branch
invariant-loop-branch g l =
    (l.count ≤ l.branch)
    × (0 < l.count → l.last < l.branch)
    × ((flags : List g.row.F.Denot) → AllZip (HasFlag l.index) l.columns flags → AreNonzero g.F.PrimeCharacteristicRing.ring g.F.PartialEq.eq (take l.branch flags) l.count l.last)
