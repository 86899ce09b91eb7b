use Rattle.std.proofs.Common.{take, slice_index_or}
use Rattle.air.specs.Traces.{traces_of}
use Rattle.lookup_model.specs.Trace.{sent_rows_under}
use Rattle.lookup_messages.specs.SentMessages.{HasSentRows, StayInFront}
use Rattle.lookup_messages.proofs.messages.push_rows.Given as goal

abbrev pub invariant-loop-row : goal.invariant-loop-row
invariant-loop-row g l =
    let R = g.F.PrimeCharacteristicRing.ring in
    let eq = g.F.PartialEq.eq in
    HasSentRows R eq l.fn.messages.items l.messages.items (take l.row (sent_rows_under R eq (λ k. slice_index_or l.ids k.column 0) (traces_of l.traces) l.lookups))
    × StayInFront l.fn.messages.items l.messages.items
