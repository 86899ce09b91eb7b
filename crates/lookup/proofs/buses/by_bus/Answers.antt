use Rattle.std.proofs.Common.{Some, map, refl, sym, ap, ◌∙◌}
use Rattle.lookup_model.specs.Outline.{bus_of}
use Rattle.lookup.specs.Buses.{group_of}
use Rattle.lookup.proofs.GroupLaws.{borrowed_more, borrowed_skip}
use Rattle.lookup.proofs.buses.by_bus.Goals.{in-Global+in_ok-push_at-in-Global, in-Local}
use Rattle.lookup.proofs.buses.by_bus.Goals as goal

pub loop-lookup-preserved : goal.loop-lookup-preserved
loop-lookup-preserved g c =
    elim c.match-lookup.branch [
      | in-Global+in_ok-push_at-in-Global w ↦ ap (λ b. map group_of b.entries) w.buses-is ∙ borrowed_more c.args.lookups.now c.loop-lookup.lookup-index c.lookup-item.result c.loop-lookup.buses.entries _ _ _ c.loop-lookup-test.true c.lookup-item.is c.loop-lookup.invariant refl (ap bus_of w.in-Global.is ∙ ap Some (sym w.as_str.ensures.value)) w.in_ok-push_at-in-Global.ensures
      | in-Local w ↦ ap (λ b. map group_of b.entries) w.buses-is ∙ borrowed_skip c.args.lookups.now c.loop-lookup.lookup-index c.lookup-item.result c.loop-lookup.buses.entries c.loop-lookup-test.true c.lookup-item.is c.loop-lookup.invariant (ap bus_of w.in-Local.is)
    ]
