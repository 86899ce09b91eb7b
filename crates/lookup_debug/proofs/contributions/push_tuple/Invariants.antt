use Rattle.std.proofs.Common.{◌≡◌, ◌++◌, take}
use Rattle.lookup_model.specs.Sent.{values}
use Rattle.lookup_messages.specs.TraceBuilder.{builder_window}
use Rattle.lookup_debug.proofs.contributions.push_tuple.Given as goal

abbrev pub invariant-loop-element : goal.invariant-loop-element
invariant-loop-element g l =
    l.elements.items ≡ l.fn.elements.items ++ values g.F.PrimeCharacteristicRing.ring (builder_window l.builder) (take l.element-index l.tuple)
