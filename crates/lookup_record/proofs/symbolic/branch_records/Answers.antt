use Rattle.std.proofs.Common.{ap, arith, map, refl}
use Rattle.std.proofs.lemmas.List.{append-nil, nil_from_length}
use Rattle.std.specs.Vec.Iter.{into_iter_items}
use Rattle.field.proofs.Items.{moved_over}
use Rattle.lookup_record.specs.Pushed.{pushed_branch}
use Rattle.lookup_record.specs.Records.{branch_of}
use Rattle.lookup_record.proofs.symbolic.branch_records.Goals as goal

pub loop-flag-init : goal.loop-flag-init
loop-flag-init g c = rw (c.new-records.ensures.items, c.into_iter-flag-iterator.ensures.into_iter_gives.0) refl

pub loop-flag-preserved : goal.loop-flag-preserved
loop-flag-preserved g c = rw c.in_ok-push.ensures.items
    (moved_over branch_of pushed_branch c.loop-flag.records.items (into_iter_items c.loop-flag.flag-iterator) (into_iter_items c.next.new.self)
    (record { flag = c.in-Some.flag; count = c.into_parts-count.result.0; fields = c.in-Some.fields; count_weight = c.into_parts-count.result.1 })
    (c.in-Some.flag, c.in-Some.count, c.in-Some.fields) _ c.loop-flag.invariant c.in-Some.ensures.steps.0 (ap (λ p. record { flag = c.in-Some.flag; count = p.0; fields = c.in-Some.fields.items; weight = p.1 }) c.into_parts-count.ensures))

pub returns : goal.returns
returns g c =
    let none = ap (map pushed_branch) (nil_from_length (into_iter_items c.loop-flag.flag-iterator) (omega (arith, c.in-None.ensures.steps.0, c.loop-flag.flag-iterator.rest.ok.0))) in
    rw (none, append-nil) at c.loop-flag.invariant
