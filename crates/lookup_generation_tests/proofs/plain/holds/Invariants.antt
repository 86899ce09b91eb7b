use Rattle.std.proofs.Common.{◌≡◌, false, take}
use Rattle.std.specs.List.{list_any}
use Rattle.lookup_model.specs.Message.{same_key}
use Rattle.lookup_generation_tests.specs.PlainProgram.{as_message}
use Rattle.lookup_generation_tests.proofs.plain.holds.Given as goal

abbrev pub invariant-loop-message : goal.invariant-loop-message
invariant-loop-message g l = list_any (λ m. same_key g.F.PartialEq.eq (as_message m).key (as_message l.like).key) (take l.message-index l.messages) ≡ false
