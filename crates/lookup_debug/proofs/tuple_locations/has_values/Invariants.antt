use Rattle.std.proofs.cmp.SliceLoops.{Rest}
use Rattle.std.specs.Cmp.Lexicographic.{pointwise}
use Rattle.lookup_model.specs.Sent.{values}
use Rattle.lookup_messages.specs.TraceBuilder.{builder_window}
use Rattle.lookup_debug.proofs.tuple_locations.has_values.Given as goal

abbrev pub invariant-loop-index : goal.invariant-loop-index
invariant-loop-index g l =
    Rest (pointwise g.F.PartialEq.eq) l.tuple (values g.F.PrimeCharacteristicRing.ring (builder_window l.builder) l.elements) l.index
