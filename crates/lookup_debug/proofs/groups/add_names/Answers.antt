use Rattle.std.proofs.Common.{◌∙◌, Some, ap, map, nat_eq, sym}
use Rattle.std.specs.Cmp.Lexicographic.{pointwise}
use Rattle.indexmap.specs.IndexSet.{keys}
use Rattle.lookup_model.specs.Net.{first_seen}
use Rattle.lookup_model.specs.Outline.{bus_of}
use Rattle.lookup_debug.proofs.BusLaws.{buses_more, buses_skip, inserted}
use Rattle.lookup_debug.proofs.groups.add_names.Goals.{in-Global+in_ok-insert-in-Global, in-Local}
use Rattle.lookup_debug.proofs.groups.add_names.Goals as goal

pub loop-lookup-preserved : goal.loop-lookup-preserved
loop-lookup-preserved g c =
    let ls = c.args.lookups.now in
    let i = c.loop-lookup.lookup-index in
    let l = c.lookup-item.result in
    elim c.match-lookup.branch [
      | in-Global+in_ok-insert-in-Global w ↦ λ seen start.
          ap (λ names. map (λ n. n.now) (keys names)) w.names-is
          ∙ ap (map (λ n. n.now)) w.in_ok-insert-in-Global.ensures.keys
          ∙ inserted _ (keys c.loop-lookup.names) w.as_str.result (c.loop-lookup.invariant seen start)
          ∙ ap (first_seen (pointwise nat_eq)) (buses_more ls i l w.as_str.result.now seen c.loop-lookup-test.true c.lookup-item.is (ap bus_of w.in-Global.is ∙ ap Some (sym w.as_str.ensures.value)))
      | in-Local w ↦ λ seen start.
          ap (λ names. map (λ n. n.now) (keys names)) w.names-is
          ∙ c.loop-lookup.invariant seen start
          ∙ ap (first_seen (pointwise nat_eq)) (buses_skip ls i l seen c.loop-lookup-test.true c.lookup-item.is (ap bus_of w.in-Local.is))
    ]
