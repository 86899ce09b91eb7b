use Rattle.std.proofs.Common.{take}
use Rattle.lookup_model.specs.Sent.{values}
use Rattle.lookup_model.specs.Selection.{AreSetFlags}
use Rattle.lookup_messages.specs.TraceBuilder.{builder_window}
use Rattle.lookup_messages.proofs.flags.set_flags.Given as goal

abbrev pub invariant-loop-index : goal.invariant-loop-index
invariant-loop-index g l =
    let R = g.F.PrimeCharacteristicRing.ring in
    let eq = g.F.PartialEq.eq in
    AreSetFlags R eq (take l.index (values R (builder_window l.builder) l.flags)) l.set
