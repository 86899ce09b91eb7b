use Rattle.std.proofs.lemmas.List.Elements.{All-map, All-nil, All-push}
use Rattle.std.proofs.lemmas.Simd.{map-map}
use Rattle.std.specs.Vec.Iter.{into_iter_items}
use Rattle.field.proofs.Items.{moved_over}
use Rattle.lookup_record.specs.Messages.{IsUnitQuery, flag_and_fields, flag_and_key}
use Rattle.lookup_record.specs.Pushed.{pushed_branch}
use Rattle.std.proofs.Common.{ap, arith, map, refl}
use Rattle.std.proofs.lemmas.List.{append-nil, nil_from_length}
use Rattle.std.proofs.lemmas.Result.{IfOk-from_err}
use Rattle.lookup_record.proofs.bus.unit_queries.Goals as goal

pub loop-flag-preserved : goal.loop-flag-preserved
loop-flag-preserved g c = rw c.in_ok-push.ensures.items (
  simp map-map (moved_over (λ q. flag_and_fields (pushed_branch q)) flag_and_key c.loop-flag.queries.items
      (into_iter_items c.loop-flag.flag-iterator) (into_iter_items c.next.new.self) c.unit_query.result (c.in-Some.flag, c.in-Some.key)
      _ (simp map-map at c.loop-flag.invariant.0) c.in-Some.ensures.steps.0 c.unit_query.ensures.flag_and_fields),
  All-push (λ q. IsUnitQuery g.F.PrimeCharacteristicRing.ring.one g.E.Expression.value g.E.Expression.degree (pushed_branch q))
      c.loop-flag.queries.items c.unit_query.result c.loop-flag.invariant.1 c.unit_query.ensures.query,
  λ layout. All-push (λ q. g.E.Expression.within layout (pushed_branch q).count)
      c.loop-flag.queries.items c.unit_query.result (c.loop-flag.invariant.2 layout) (c.unit_query.ensures.count layout),
)

pub returns-clause-queries : goal.returns-clause-queries
returns-clause-queries g c =
    All-map (IsUnitQuery g.F.PrimeCharacteristicRing.ring.one g.E.Expression.value g.E.Expression.degree) pushed_branch c.loop-flag.queries.items c.loop-flag.invariant.1

pub returns-clause-counts : goal.returns-clause-counts
returns-clause-counts g c layout =
    All-map (λ b. g.E.Expression.within layout b.count) pushed_branch c.loop-flag.queries.items (c.loop-flag.invariant.2 layout)

pub loop-flag-init : goal.loop-flag-init
loop-flag-init g c = rw (c.new-queries.ensures.items, c.into_iter-flag-iterator.ensures.into_iter_gives.0) (
  refl,
  All-nil (λ q. IsUnitQuery g.F.PrimeCharacteristicRing.ring.one g.E.Expression.value g.E.Expression.degree (pushed_branch q)),
  λ layout. All-nil (λ q. g.E.Expression.within layout (pushed_branch q).count),
)

pub returns-clause-flags_and_fields : goal.returns-clause-flags_and_fields
returns-clause-flags_and_fields g c =
    let none = ap (map flag_and_key) (nil_from_length (into_iter_items c.loop-flag.flag-iterator) (omega (arith, c.in-None.ensures.steps.0, c.loop-flag.flag-iterator.rest.ok.0))) in
    rw (none, append-nil) at c.loop-flag.invariant.0

pub returns-in_err-push-clause-flags_and_fields : goal.returns-in_err-push-clause-flags_and_fields
returns-in_err-push-clause-flags_and_fields g c = IfOk-from_err _ _ c.from_residual.ensures.0

pub returns-in_err-push-clause-queries : goal.returns-in_err-push-clause-queries
returns-in_err-push-clause-queries g c = IfOk-from_err _ _ c.from_residual.ensures.0

pub returns-in_err-push-clause-counts : goal.returns-in_err-push-clause-counts
returns-in_err-push-clause-counts g c = IfOk-from_err _ _ c.from_residual.ensures.0
