use Rattle.std.proofs.Common.{◌≡◌, ◌⊎◌, ℕ, List, inl, inr, refl, subst}
use Rattle.batch.specs.Runs.{plan_of}
use Rattle.batch.specs.declared.error.BatchError.TheVariants.{Memory}
use Rattle.c_calls.specs.BatchTables.{IsPlanningRefusal}
use Rattle.c_calls.proofs.AnswerLaws.{refused_is}
use Rattle.c_calls.proofs.GivenIdsLaws.{plan_from_tables}
use Rattle.c_calls.proofs.batch_tables.plan_of.Goals as goal

pub returns-in_err-plan : goal.returns-in_err-plan
returns-in_err-plan g c = rw (refused_is c.from_residual-in_err-plan.result c.from_residual-in_err-plan.ensures.1) (inr (
  c.in_ok-sets.sets.items,
  c.in_ok-sets.ensures,
  (
    c.in_err-plan.field-0.0,
    refl,
    subst (λ (hs : List ℕ). (c.in_err-plan.field-0.0 ≡ Memory) ⊎ IsPlanningRefusal c.args.airs.now c.in_ok-sets.sets.items hs c.in_err-plan.field-0.0) c.in_ok-heights.ensures c.in_err-plan.ensures,
  ),
))

pub returns : goal.returns
returns g c = plan_from_tables c.args.airs.now c.in_ok-sets.sets.items c.in_ok-heights.heights.items (plan_of c.in_ok-plan.plan) c.in_ok-sets.ensures c.in_ok-heights.ensures c.in_ok-plan.plan.facts c.in_ok-plan.ensures
