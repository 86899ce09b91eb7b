use Rattle.std.proofs.Common.{◌<◌, ℕ, List, length, ap, refl, subst, sym, take, true≢false, ◌∙◌, arith}
use Rattle.std.proofs.lemmas.List.{take_all}
use Rattle.std.proofs.lemmas.Slice.Zip.{length-zip}
use Rattle.std.specs.List.{flat_map, zip}
use Rattle.lookup.specs.Lookups.{lookups_of}
use Rattle.lookup.specs.declared.lookups.Lookups.{Lookups}
use Rattle.batch.proofs.IdCounts.{lists_for_airs, same_at}
use Rattle.batch.proofs.SeenLaws.{air_seen}
use Rattle.batch.specs.Lists.{lists_of}
use Rattle.batch.specs.Order.{AreByBus}
use Rattle.batch.proofs.assigned.are_assigned.Goals as goal

pub see_air-requires : goal.see_air-requires
see_air-requires g c =
    let ids = c.args.ids.now in
    let airs = c.args.airs.now in
    let counts = c.have_ids.ensures.0 c.if-not-have_ids.false in
    let in_ids : c.loop-air.air < length ids = omega (arith, lists_for_airs ids airs counts, c.loop-air-test.true) in
    ap length c.as_slice-in-loop-air.ensures.value
    ∙ same_at ids airs c.loop-air.air c.index-ids-air.result c.index-airs-air.result in_ids c.loop-air-test.true c.index-ids-air.is c.index-airs-air.is counts
    ∙ sym (ap length c.as_slice.ensures.lookups)

pub returns-then-not-branch : goal.returns-then-not-branch
returns-then-not-branch g c =
    let ids = c.args.ids.now in
    let airs = c.args.airs.now in
    let i = c.loop-air.air in
    let as_many = lists_for_airs ids airs (c.have_ids.ensures.0 c.if-not-have_ids.false) in
    let step = air_seen c.args.num_ids ids airs i c.see_air.new.seen c.in_ok-see_air.field-0 c.index-ids-air.result c.index-airs-air.result as_many c.loop-air-test.true c.index-ids-air.is c.index-airs-air.is
    c.as_slice-in-loop-air.result.now c.as_slice.result.now c.as_slice-in-loop-air.ensures.value c.as_slice.ensures.lookups
    (c.in_ok-see_air.ensures (flat_map (λ p. zip p.0 (lookups_of p.1)) (take i (zip (lists_of ids) airs))) c.loop-air.invariant) in
    (λ yes. absurd (true≢false (sym yes)), λ lawful. absurd (true≢false (sym (step.1 lawful.by_bus) ∙ c.if-not-branch.true)))

pub loop-air-preserved : goal.loop-air-preserved
loop-air-preserved g c =
    let ids = c.args.ids.now in
    let airs = c.args.airs.now in
    let i = c.loop-air.air in
    let as_many = lists_for_airs ids airs (c.have_ids.ensures.0 c.if-not-have_ids.false) in
    let step = air_seen c.args.num_ids ids airs i c.see_air.new.seen c.in_ok-see_air.field-0 c.index-ids-air.result c.index-airs-air.result as_many c.loop-air-test.true c.index-ids-air.is c.index-airs-air.is
    c.as_slice-in-loop-air.result.now c.as_slice.result.now c.as_slice-in-loop-air.ensures.value c.as_slice.ensures.lookups
    (c.in_ok-see_air.ensures (flat_map (λ p. zip p.0 (lookups_of p.1)) (take i (zip (lists_of ids) airs))) c.loop-air.invariant) in
    step.0 c.if-not-branch.false

pub returns : goal.returns
returns g c =
    let ids = c.args.ids.now in
    let airs = c.args.airs.now in
    let entries = λ (p : List ℕ × Lookups _). zip p.0 (lookups_of p.1) in
    let counts = c.have_ids.ensures.0 c.if-not-have_ids.false in (
      λ yes. record {
        as_many = counts;
        by_bus = subst (λ (ps : List (List ℕ × Lookups _)). AreByBus (flat_map entries ps) c.args.num_ids) (take_all c.loop-air.air (zip (lists_of ids) airs) (omega (arith, c.loop-air-test.false, length-zip (lists_of ids) airs))) c.loop-air.invariant.by_bus;
      },
      λ lawful. refl,
    )
