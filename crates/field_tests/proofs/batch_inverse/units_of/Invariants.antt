use Rattle.std.proofs.Common.{◌≢◌, All}
use Rattle.field.specs.internal.IntegersModulo7.{f7_ring}
use Rattle.field_tests.proofs.batch_inverse.units_of.Given as goal

abbrev pub invariant-loop-n : goal.invariant-loop-n
invariant-loop-n l = All (λ x. x ≢ f7_ring.zero) l.kept.items
