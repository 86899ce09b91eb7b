use Rattle.std.proofs.Common.{◌≡◌, ℕ, List, Vec, Global, inl, inr, length, ap, arith, sym, ◌∙◌}
use Rattle.std.proofs.lemmas.List.{length-map}
use Rattle.std.proofs.lemmas.Result.{MatchResult-weaker}
use Rattle.air_expressions.specs.declared.base_expression.SymbolicExpression.{SymbolicExpression}
use Rattle.batch.specs.Runs.{plan_of}
use Rattle.batch_enforced.proofs.QueryLaws.{plan_provides}
use Rattle.batch_enforced.proofs.WeightLaws.{along, plan_weighed}
use Rattle.batch_enforced.specs.EnforcedPlans.{constraints_of}
use Rattle.batch_enforced.specs.Weights.{EnforceAllWeights, IsFirstWeightFault, queries_of, query_lists}
use Rattle.lookup.specs.declared.lookups.Lookups.{Lookups}
use Rattle.batch_enforced.proofs.plan.EnforcedPlan.check_weights.Goals as goal

pub returns : goal.returns
returns g c =
    let R = g.F.PrimeCharacteristicRing.ring in
    let eq = g.F.PartialEq.eq in
    let p = g.F.PrimeCharacteristicRing.CHARACTERISTIC in
    let self = c.args.self.now in
    let plan = plan_of self.plan in
    let constraints = self.constraints.items in
    let queries = queries_of c.args.queries.now in
    let asked : length queries ≡ length plan.airs = omega (arith, length-map c.args.queries.now (λ lists. query_lists lists.items), c.if-queries-airs.false, ap length c.airs-airs.ensures) in
    let Lists = List (Vec (SymbolicExpression _) Global) in
    let All : Lists → List (Lookups _) → List ℕ → Type 0 = λ cs airs hs. EnforceAllWeights R eq queries (constraints_of cs) airs hs in
    MatchResult-weaker c.check_all_weights.result c.check_all_weights.ensures
    (λ done all. (
      along All _ constraints _ plan.airs _ plan.heights c.as_slice-constraints.ensures.value c.airs-airs.ensures c.heights.ensures all,
      omega (arith, c.if-queries-airs.false, ap length c.airs-airs.ensures),
      λ traces fit hold. plan_provides R eq p plan self.plan.facts c.laws.ensures.heights (constraints_of constraints) queries traces fit
          (plan_weighed R eq p plan (constraints_of constraints) queries self.plan.facts asked
          (along All _ constraints _ plan.airs _ plan.heights c.as_slice-constraints.ensures.value c.airs-airs.ensures c.heights.ensures all) traces fit hold),
    ))
    (λ e refusal. elim refusal [
      | inl memory ↦ inl memory
      | inr fault ↦ inr (inr (asked, along (λ (cs : Lists) (airs : List (Lookups _)) (hs : List ℕ). IsFirstWeightFault R eq queries (constraints_of cs) airs hs e) _ constraints _ plan.airs _ plan.heights c.as_slice-constraints.ensures.value c.airs-airs.ensures c.heights.ensures fault))
    ])
