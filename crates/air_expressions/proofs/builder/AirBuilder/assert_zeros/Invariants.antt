use Rattle.std.proofs.Common.{◌≡◌, ◌++◌}
use Rattle.std.specs.Vec.Iter.{into_iter_items}
use Rattle.air_expressions.specs.Builder.{AcceptsAll}
use Rattle.air_expressions.proofs.builder.AirBuilder.assert_zeros.Given as goal

abbrev pub invariant-loop-x : goal.invariant-loop-x
invariant-loop-x g l =
    AcceptsAll g.Self.AirBuilder.accepts l.initial.self l.yielded l.self × (l.fn.xs.items ≡ l.yielded ++ into_iter_items l.x-iterator)
