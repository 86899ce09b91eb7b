use Rattle.std.proofs.Common.{rules}
use Rattle.c_calls.proofs.RefusalLaws.{has_its_fields}
use Rattle.c_calls.proofs.refusal.refuse.Goals as goal

pub returns-clause-is : goal.returns-clause-is
returns-clause-is c = record { is = search rules; fields = has_its_fields c.args.fault.now }
