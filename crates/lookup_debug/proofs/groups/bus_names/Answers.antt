use Rattle.std.proofs.Common.{◌<◌, ◌∙◌, List, ap, arith, length, map, nat_eq, sym, ℕ}
use Rattle.std.proofs.lemmas.List.{length-map}
use Rattle.std.proofs.lemmas.Result.{IfOk-weaker}
use Rattle.std.specs.Cmp.Lexicographic.{pointwise}
use Rattle.std.specs.List.{filter_map, flat_map}
use Rattle.list_laws.proofs.Items.{numbered_all}
use Rattle.list_laws.proofs.Images.{mapped_at}
use Rattle.lookup_model.specs.Net.{first_seen}
use Rattle.lookup_model.specs.Outline.{bus_of}
use Rattle.lookup_debug.specs.Contributions.{Traced, traced_of}
use Rattle.lookup_debug.specs.Groups.{LookupAt, lookups_in}
use Rattle.lookup_debug.proofs.BusLaws.{names_more}
use Rattle.lookup_debug.proofs.groups.bus_names.Goals as goal

pub loop-instance-preserved : goal.loop-instance-preserved
loop-instance-preserved g c =
    let instances = c.args.instances.now in
    let ts = map traced_of instances in
    let i = c.loop-instance.instance-index in
    let t = traced_of c.instance-item.result in
    let lt : i < length ts = omega (arith, c.loop-instance-test.true, length-map instances traced_of) in
    c.in_ok-add_names.ensures _ c.loop-instance.invariant
    ∙ ap (first_seen (pointwise nat_eq)) (sym (names_more ts i t lt (mapped_at traced_of instances i c.instance-item.result c.loop-instance-test.true c.instance-item.is)))

pub returns : goal.returns
returns g c =
    let instances = c.args.instances.now in
    let ts = map traced_of instances in
    let names = λ (ps : List (ℕ × Traced _)). first_seen (pointwise nat_eq) (filter_map (λ (p : LookupAt _). bus_of p.lookup.kind) (flat_map lookups_in ps)) in
    let all = ap names (numbered_all ts c.loop-instance.instance-index (omega (arith, c.loop-instance-test.false, length-map instances traced_of))) in
    IfOk-weaker c.collect_names.result _ _ (λ list is. ap (map (λ n. n.now)) is ∙ c.loop-instance.invariant ∙ all) c.collect_names.ensures
