use Rattle.list_laws.proofs.Items.{HoldsBelow}
use Rattle.check_judge.specs.Enforced.{IsAllEnforced}
use Rattle.check_judge.proofs.enforced.are_all_enforced.Given as goal

abbrev pub invariant-loop-index : goal.invariant-loop-index
invariant-loop-index l = HoldsBelow IsAllEnforced l.airs l.index
