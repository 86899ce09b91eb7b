use Rattle.std.proofs.Common.{take, slice_index_or}
use Rattle.lookup_model.specs.Trace.{sent_row_under}
use Rattle.lookup_messages.specs.SentMessages.{HasSentRow, StayInFront}
use Rattle.lookup_messages.specs.TraceBuilder.{builder_window}
use Rattle.lookup_messages.proofs.messages.push_row_messages.Given as goal

abbrev pub invariant-loop-lookup : goal.invariant-loop-lookup
invariant-loop-lookup g l =
    let R = g.F.PrimeCharacteristicRing.ring in
    let eq = g.F.PartialEq.eq in
    HasSentRow R eq l.builder.row l.fn.messages.items l.messages.items (take l.lookup-index (sent_row_under R eq (λ k. slice_index_or l.ids k.column 0) (builder_window l.builder) l.lookups))
    × StayInFront l.fn.messages.items l.messages.items
