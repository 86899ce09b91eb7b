use Rattle.std.proofs.Common.{◌≡◌, length, subst, sym, arith}
use Rattle.std.proofs.lemmas.List.{length-map}
use Rattle.std.proofs.lemmas.Result.{MatchResult-weaker, err_from_is_err_and}
use Rattle.batch.specs.Checks.{IsPlanFor, IsPlanRefusal}
use Rattle.batch.specs.Runs.{plan_of}
use Rattle.batch.specs.declared.plan.BatchPlan.{BatchPlan}
use Rattle.batch_enforced.proofs.RefusalLaws.{found_alike, plan_refusal, unshown_refusal}
use Rattle.batch_enforced.specs.EnforcedPlans.{constraints_of}
use Rattle.batch_enforced.proofs.plan.EnforcedPlan.new.Goals as goal

pub returns-in_err-plan : goal.returns-in_err-plan
returns-in_err-plan g c =
    let p = g.F.PrimeCharacteristicRing.CHARACTERISTIC in
    let airs = c.args.airs.items in
    let heights = c.args.heights.items in
    let lists = c.args.constraints.items in
    let found = found_alike g.F.PrimeCharacteristicRing.ring g.F.PartialEq.eq c.as_slice-lists.result.now lists c.as_slice.result.now airs c.as_slice-2.result.now heights c.in_ok-unshown.unshown c.as_slice-lists.ensures.value c.as_slice.ensures.value c.as_slice-2.ensures.value
    (record { many = c.in_ok-unshown.ensures.0; found = c.in_ok-unshown.ensures.1 }) in
    let many : length (constraints_of lists) ≡ length airs = omega (arith, length-map lists (λ list. list.items), found.many) in
    let q = err_from_is_err_and c.from_residual-in_err-plan.result c.from_residual-in_err-plan.ensures.1 in
    rw (q.1, q.2) (plan_refusal g.F.PrimeCharacteristicRing.ring g.F.PartialEq.eq p (IsPlanFor airs heights) (IsPlanRefusal p airs heights) airs heights (constraints_of lists) c.in_err-plan.field-0.0 many c.in_err-plan.ensures)

pub returns : goal.returns
returns g c =
    let p = g.F.PrimeCharacteristicRing.CHARACTERISTIC in
    let airs = c.args.airs.items in
    let heights = c.args.heights.items in
    let lists = c.args.constraints.items in
    let plan = c.in_ok-plan.plan in
    let found = found_alike g.F.PrimeCharacteristicRing.ring g.F.PartialEq.eq c.as_slice-lists.result.now lists c.as_slice.result.now airs c.as_slice-2.result.now heights c.in_ok-unshown.unshown c.as_slice-lists.ensures.value c.as_slice.ensures.value c.as_slice-2.ensures.value
    (record { many = c.in_ok-unshown.ensures.0; found = c.in_ok-unshown.ensures.1 }) in
    MatchResult-weaker c.of_shown.result c.of_shown.ensures
    (λ made h. (subst (λ (q : BatchPlan _ _ _ _ _ _ _ _ _). IsPlanFor airs heights (plan_of q)) (sym h.0) c.in_ok-plan.ensures, h.1, omega (arith, found.many)))
    (unshown_refusal g.F.PrimeCharacteristicRing.ring g.F.PartialEq.eq p (IsPlanFor airs heights) (IsPlanRefusal p airs heights) lists airs heights c.in_ok-unshown.unshown (plan_of plan) plan.facts c.in_ok-plan.ensures found)
