use Rattle.std.proofs.Common.{◌≡◌, map, take}
use Rattle.check_judge.proofs.enforced.queries_of.Given as goal

abbrev pub invariant-loop-count : goal.invariant-loop-count
invariant-loop-count l = l.queries.items ≡ map (λ c. c.is_query) (take l.count-index l.counts)
