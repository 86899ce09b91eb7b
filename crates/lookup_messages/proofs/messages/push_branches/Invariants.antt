use Rattle.std.proofs.Common.{◌≡◌, ◌++◌, take}
use Rattle.lookup_model.specs.Sent.{branches_at}
use Rattle.lookup_messages.specs.SentMessages.{StayInFront, messages_of}
use Rattle.lookup_messages.specs.TraceBuilder.{builder_window}
use Rattle.lookup_messages.proofs.messages.push_branches.Given as goal

abbrev pub invariant-loop-branch : goal.invariant-loop-branch
invariant-loop-branch g l =
    (messages_of l.messages.items ≡ messages_of l.fn.messages.items ++ take l.branch (branches_at g.F.PrimeCharacteristicRing.ring (builder_window l.builder) l.id l.lookup))
    × StayInFront l.fn.messages.items l.messages.items
