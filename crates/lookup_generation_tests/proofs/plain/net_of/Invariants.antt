use Rattle.std.proofs.Common.{◌≡◌, take}
use Rattle.lookup_model.specs.Net.{net}
use Rattle.lookup_generation_tests.specs.PlainProgram.{as_message, as_messages}
use Rattle.lookup_generation_tests.proofs.plain.net_of.Given as goal

abbrev pub invariant-loop-message : goal.invariant-loop-message
invariant-loop-message g l = l.sum ≡ net g.F.PrimeCharacteristicRing.ring g.F.PartialEq.eq (as_messages (take l.message-index l.messages)) (as_message l.like).key
