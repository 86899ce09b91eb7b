use Rattle.std.proofs.Common.{◌≡◌, rules, sym, ◌∙◌}
use Rattle.checker_batches.proofs.SameIdLaws.{ids_agree, ids_same}
use Rattle.checker_batches.proofs.same_ids.ids_are_kept.Goals as goal

pub returns-then-eq : goal.returns-then-eq
returns-then-eq g c =
    let before = c.args.before.now in
    let after = c.args.after.now in
    let same : c.in_ok-first.first.items ≡ c.in_ok-second.second.items = search rules in
    let others = sym c.in_ok-first.ensures ∙ same ∙ c.in_ok-second.ensures in (
      λ e. ids_same before.ids.now after.ids.now before.lookups.now after.lookups.now (c.all_agree.ensures.0 e) others,
      λ kept. c.all_agree.ensures.1 (
        ids_agree kept.bus_id before.ids.now before.ids.now before.lookups.now before.lookups.now kept.by_bus_before kept.by_bus_before,
        ids_agree kept.bus_id before.ids.now after.ids.now before.lookups.now after.lookups.now kept.by_bus_before kept.by_bus_after,
        ids_agree kept.bus_id after.ids.now after.ids.now after.lookups.now after.lookups.now kept.by_bus_after kept.by_bus_after,
      ),
    )
