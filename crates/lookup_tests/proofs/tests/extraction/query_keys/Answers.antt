use Rattle.air_expressions.proofs.Assertions.{on_ok}
use Rattle.lookup_tests.proofs.tests.extraction.query_keys.Goals as goal

pub returns-clause-within : goal.returns-clause-within
returns-clause-within g c = on_ok c.lookup_key_exclusive.result _ _ _ c.lookup_key_exclusive.ensures.within (λ kept. kept c.loop-branch.invariant)
