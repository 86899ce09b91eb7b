use Rattle.std.proofs.Common.{◌≡◌, ◌≤◌, ◌+◌, ◌-◌, ◌*◌, ◌%◌, ◌⊎◌, length}
use Rattle.field.specs.Extension.{extension}
use Rattle.lookup_generation.specs.Inverses.{ForInverses}
use Rattle.lookup_generation.specs.Progress.{HaveNoTuples, started_chunks}
use Rattle.lookup_generation.specs.internal.Chunks.{HasCellsFrom, HasNoFaultOn}
use Rattle.lookup_generation.proofs.ranges.chunks_between.Given as goal

abbrev pub invariant-loop-next : goal.invariant-loop-next
invariant-loop-next g l =
    (l.first ≤ l.next)
    × (l.next ≤ l.end)
    × (((l.next - l.first) % 1024 ≡ 0) ⊎ (l.next ≡ l.end))
    × (g.I.Inverter.count l.inverter ≤ g.I.Inverter.count l.fn.inverter + started_chunks (l.next - l.first))
    × (length l.made.cells.items ≡ (l.next - l.first) * (length l.inputs.lookups.now + 1))
    × (HaveNoTuples l.inputs.lookups.now → g.I.Inverter.count l.inverter ≡ g.I.Inverter.count l.fn.inverter)
    × ForInverses g.EF.PrimeCharacteristicRing.ring (λ inverse.
    let E = extension g.F.PrimeCharacteristicRing.ring g.F.PartialEq.eq g.EF.PrimeCharacteristicRing.ring g.EF.PartialEq.eq g.EF.ExtensionDomain.embed inverse in
    HasCellsFrom E l.inputs l.first l.next l.made × HasNoFaultOn E l.inputs l.first l.next)

abbrev pub decreases-loop-next : goal.decreases-loop-next
decreases-loop-next g l = l.end - l.next
