use Rattle.std.proofs.Common.{◌≡◌, ◌++◌, map, All}
use Rattle.std.specs.Vec.Iter.{into_iter_items}
use Rattle.air_expressions.specs.declared.layout.AirLayout.{AirLayout}
use Rattle.lookup_record.specs.Messages.{IsUnitQuery, flag_and_fields, flag_and_key}
use Rattle.lookup_record.specs.Pushed.{pushed_branch}
use Rattle.lookup_record.proofs.bus.unit_queries.Given as goal

abbrev pub invariant-loop-flag : goal.invariant-loop-flag
invariant-loop-flag g l =
    (map flag_and_fields (map pushed_branch l.queries.items) ++ map flag_and_key (into_iter_items l.flag-iterator) ≡ map flag_and_key l.fn.branches.items)
    × All (λ q. IsUnitQuery g.F.PrimeCharacteristicRing.ring.one g.E.Expression.value g.E.Expression.degree (pushed_branch q)) l.queries.items
    × ((layout : AirLayout) → All (λ q. g.E.Expression.within layout (pushed_branch q).count) l.queries.items)
