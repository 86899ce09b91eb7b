use Rattle.std.proofs.Common.{◌≡◌, [], map, take}
use Rattle.lookup_debug.specs.BusTable.{entry_of}
use Rattle.lookup_debug.specs.internal.Places.{placed_entry}
use Rattle.lookup_debug.proofs.places.TuplePlaces.new.Given as goal

abbrev pub invariant-loop-index : goal.invariant-loop-index
invariant-loop-index g l =
    map entry_of l.tuples.items ≡ map (placed_entry g.F.PrimeCharacteristicRing.ring g.F.PartialEq.eq l.limit []) (take l.index l.fn.listed.entries)
