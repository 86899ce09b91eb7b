use Rattle.std.proofs.Common.{arith}
use Rattle.lookup_messages.proofs.SentMessageLaws.{cut_off}
use Rattle.lookup_messages.proofs.messages.push_messages.Goals as goal

pub returns-in-Err-clause-unchanged : goal.returns-in-Err-clause-unchanged
returns-in-Err-clause-unchanged g c = cut_off c.args.messages.now.items c.push_rows.new.messages.items c.truncate.new.self.items c.len-before.result c.push_rows.ensures.front (omega (arith, c.len-before.ensures, c.args.messages.now.ok.0)) c.truncate.ensures.items
