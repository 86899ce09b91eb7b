use Rattle.std.proofs.Common.{◌≡◌}
use Rattle.lookup_tests.proofs.tests.extraction.StepsAir.eval.Given as goal

abbrev pub invariant-loop-step : goal.invariant-loop-step
invariant-loop-step g l =
    (g.AB.AirBuilder.layout l.builder ≡ g.AB.AirBuilder.layout l.initial.builder)
    × (g.AB.AirBuilder.pushed_within l.initial.builder → g.AB.AirBuilder.pushed_within l.builder)
