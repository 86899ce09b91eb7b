use Rattle.std.proofs.Common.{◌≡◌, ◌≤◌, ◌+◌, ◌*◌, ℕ, length}
use Rattle.field.specs.Extension.{extension}
use Rattle.lookup_generation.specs.Inverses.{ForInverses}
use Rattle.lookup_generation.specs.internal.Chunks.{HasCellsFrom}
use Rattle.lookup_generation.proofs.chunk.push_chunk.Given as goal

abbrev pub invariant-loop-index : goal.invariant-loop-index
invariant-loop-index g l = ForInverses g.EF.PrimeCharacteristicRing.ring (λ inverse.
    let E = extension g.F.PrimeCharacteristicRing.ring g.F.PartialEq.eq g.EF.PrimeCharacteristicRing.ring g.EF.PartialEq.eq g.EF.ExtensionDomain.embed inverse in
    (origin : ℕ) → origin ≤ l.fn.first → HasCellsFrom E l.fn.inputs origin l.fn.first l.fn.made
    → HasCellsFrom E l.fn.inputs origin (l.fn.first + l.index) l.made)
    × (length l.made.cells.items ≡ length l.fn.made.cells.items + l.index * (length l.fn.inputs.lookups.now + 1))
