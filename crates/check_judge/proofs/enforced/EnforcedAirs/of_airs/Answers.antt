use Rattle.std.proofs.Common.{◌↔◌, All, IsTrue, subst}
use Rattle.check_judge.specs.Enforced.{IsAllEnforced}
use Rattle.check_judge.proofs.enforced.EnforcedAirs.of_airs.Goals as goal

pub returns-clause-all : goal.returns-clause-all
returns-clause-all c = subst (λ airs. IsTrue c.are_all_enforced-all.result ↔ All IsAllEnforced airs) c.as_slice.ensures.value c.are_all_enforced-all.ensures
