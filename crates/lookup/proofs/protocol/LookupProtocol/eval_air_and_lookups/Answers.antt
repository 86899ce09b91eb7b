use Rattle.std.proofs.Common.{inr}
use Rattle.lookup.proofs.protocol.LookupProtocol.eval_air_and_lookups.Goals as goal

pub returns : goal.returns
returns g c = inr (c.eval.new.builder, c.in_ok-eval.ensures, c.eval_all.ensures)
