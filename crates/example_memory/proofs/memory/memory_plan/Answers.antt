use Rattle.std.proofs.Common.{inl, subst, sym, ◌∙◌}
use Rattle.std.proofs.lemmas.Result.{err_from_is_err_and}
use Rattle.batch.specs.Checks.{IsPlanFor}
use Rattle.batch.specs.Runs.{plan_of}
use Rattle.example_memory.proofs.PlanLaws.{if_planned, plan_refused}
use Rattle.example_memory.specs.Memory.{SetsFit}
use Rattle.example_memory.proofs.memory.memory_plan.Goals as goal

pub returns-in_err-lookups-clause-refused : goal.returns-in_err-lookups-clause-refused
returns-in_err-lookups-clause-refused g c =
    let p = err_from_is_err_and c.from_residual.result c.from_residual.ensures.1 in
    rw (p.1, p.2) (inl c.in_err-lookups.ensures.refused)

pub returns-clause-fit : goal.returns-clause-fit
returns-clause-fit g c =
    if_planned c.new.result (λ plan. IsPlanFor c.in_ok-lookups.lookups.items c.in_ok-heights.heights.items (plan_of plan)) _ _ (λ plan is. subst SetsFit (sym is.airs_are) c.in_ok-lookups.ensures.fit) c.new.ensures

pub returns-clause-heights : goal.returns-clause-heights
returns-clause-heights g c =
    if_planned c.new.result (λ plan. IsPlanFor c.in_ok-lookups.lookups.items c.in_ok-heights.heights.items (plan_of plan)) _ _ (λ plan is. is.heights_are ∙ c.in_ok-heights.ensures.items) c.new.ensures

pub returns-clause-ids : goal.returns-clause-ids
returns-clause-ids g c =
    if_planned c.new.result (λ plan. IsPlanFor c.in_ok-lookups.lookups.items c.in_ok-heights.heights.items (plan_of plan)) _ _ (λ plan is. is.numbered) c.new.ensures

pub returns-clause-refused : goal.returns-clause-refused
returns-clause-refused g c =
    plan_refused _ g.F.PrimeCharacteristicRing.CHARACTERISTIC c.in_ok-lookups.lookups.items c.in_ok-heights.heights.items _ c.new.result c.in_ok-heights.ensures.items c.in_ok-lookups.ensures.fit c.new.ensures
