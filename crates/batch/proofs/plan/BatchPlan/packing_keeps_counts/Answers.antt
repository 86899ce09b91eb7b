use Rattle.std.proofs.Common.{max, sym, ap, ◌∙◌}
use Rattle.batch.proofs.PackedPlans.{greatest_stays, plan_packed, renaming, renaming_apart}
use Rattle.batch.proofs.PlanCalls.{batch_fits}
use Rattle.batch.specs.Runs.{plan_of}
use Rattle.batch.proofs.plan.BatchPlan.packing_keeps_counts.Goals as goal

pub returns-clause-counts : goal.returns-clause-counts
returns-clause-counts g c = λ packed traces fit.
    let before = plan_of c.args.self.now in
    let after = plan_of c.args.packed.now in
    let R = g.F.PrimeCharacteristicRing.ring in
    let eq = g.F.PartialEq.eq in
    let lawful = c.args.self.now.facts.lawful in
    let lawful_after = c.args.packed.now.facts.lawful in
    c.packing_keeps_batch.ensures.renumbered
    (renaming R eq before.ids before.airs before.num_ids after.ids after.airs after.num_ids lawful lawful_after packed)
    (renaming_apart R eq before.ids before.airs before.num_ids after.ids after.airs after.num_ids lawful lawful_after packed)
    _ _ (batch_fits g.F.PrimeCharacteristicRing.CHARACTERISTIC before c.args.self.now.facts traces fit)
    (plan_packed R eq before.ids before.airs before.num_ids after.ids after.airs after.num_ids lawful lawful_after packed traces)

pub returns-clause-width : goal.returns-clause-width
returns-clause-width g c = λ packed.
    c.args.packed.now.facts.width ∙ ap (λ n. max n 1) (greatest_stays g.F.PrimeCharacteristicRing.ring g.F.PartialEq.eq c.args.self.now.airs.items c.args.packed.now.airs.items packed) ∙ sym c.args.self.now.facts.width
