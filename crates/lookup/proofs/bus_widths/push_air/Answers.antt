use Rattle.std.proofs.Common.{◌≡◌, ◌++◌, ap, arith, ◌+◌, length, map, slice_get, sym, take, take_all, true≢false, ◌∙◌}
use Rattle.std.proofs.lemmas.List.{length-map}
use Rattle.std.proofs.lemmas.Option.{slice_get-map}
use Rattle.std.specs.Option.{option_map}
use Rattle.std.specs.List.{flat_map}
use Rattle.list_laws.proofs.Parts.{parts_next}
use Rattle.lookup_model.specs.Outline.{fields_of}
use Rattle.lookup.specs.Buses.{bus_groups, group_of}
use Rattle.lookup.specs.BusWidths.{widths_of}
use Rattle.lookup.specs.NamedWidths.{seen_widths}
use Rattle.lookup.proofs.bus_widths.push_air.Goals.{in-Some+in_ok-push_bus, in_default}
use Rattle.lookup.proofs.PackLaws.{at_index}
use Rattle.lookup.proofs.bus_widths.push_air.Goals as goal

pub loop-index-preserved : goal.loop-index-preserved
loop-index-preserved g c =
    let groups = bus_groups (map fields_of c.args.lookups.now) in
    let old = seen_widths c.loop-index.widths.items in
    elim c.match-get_index.branch [
      | in-Some+in_ok-push_bus w ↦
          let name = w.in-Some.name.now.now in
          let there = ap (λ l. slice_get l c.loop-index.index) (sym c.in_ok-buses.ensures) ∙ slice_get-map group_of c.in_ok-buses.buses.entries c.loop-index.index ∙ ap (option_map group_of) (sym w.in-Some.ensures.entry) in
          let (later, whole, longer) = at_index groups c.loop-index.index (group_of (w.in-Some.name.now, w.in-Some.members.now)) there in
          ap (λ v. seen_widths v.items) w.widths-is
          ∙ parts_next (λ g. map (λ w. (g.0, w)) (flat_map widths_of g.1)) (take c.loop-index.index groups) (take (c.loop-index.index + 1) groups) (group_of (w.in-Some.name.now, w.in-Some.members.now)) _ _ _ longer c.loop-index.invariant
          (w.in_ok-push_bus.ensures ∙ ap (λ ms. old ++ map (λ w. (name, w)) (flat_map widths_of (map (λ r. fields_of r.now) ms))) w.deref.ensures.value)
      | in_default w ↦
          let some = w.in_default.ensures.found.1 (omega (arith, c.loop-index-test.true, c.len-index-end.ensures.len)) in
          absurd (true≢false (sym some))
    ]

pub returns : goal.returns
returns g c =
    let groups = bus_groups (map fields_of c.args.lookups.now) in
    let long : length groups ≡ length c.in_ok-buses.buses.entries = sym (ap length c.in_ok-buses.ensures) ∙ length-map c.in_ok-buses.buses.entries group_of in
    c.loop-index.invariant
    ∙ ap (λ l. seen_widths c.args.widths.now.items ++ flat_map (λ g. map (λ w. (g.0, w)) (flat_map widths_of g.1)) l) (take_all c.loop-index.index groups (omega (arith, long, c.loop-index-test.false, c.len-index-end.ensures.len)))
