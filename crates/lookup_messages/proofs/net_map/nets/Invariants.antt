use Rattle.std.proofs.Common.{◌≡◌, take}
use Rattle.lookup_messages.specs.SentMessages.{messages_of}
use Rattle.lookup_messages.specs.Entries.{key_entries, nets_of}
use Rattle.lookup_messages.proofs.net_map.nets.Given as goal

abbrev pub invariant-loop-message : goal.invariant-loop-message
invariant-loop-message g l = key_entries l.nets.entries ≡ nets_of g.F.PrimeCharacteristicRing.ring g.F.PartialEq.eq (messages_of (take l.message-index l.messages))
