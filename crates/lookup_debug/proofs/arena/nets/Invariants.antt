use Rattle.std.proofs.Common.{◌≡◌, map, take}
use Rattle.lookup_debug.specs.internal.Arena.{span_amount}
use Rattle.lookup_debug.specs.internal.Nets.{amount_nets, tuple_entries}
use Rattle.lookup_debug.proofs.arena.nets.Given as goal

abbrev pub invariant-loop-span : goal.invariant-loop-span
invariant-loop-span g l = tuple_entries l.nets.entries ≡ amount_nets g.F.PrimeCharacteristicRing.ring g.F.PartialEq.eq (map (span_amount l.contributions.elements.items) (take l.span-index l.contributions.spans.items))
