use Rattle.std.proofs.Common.{◌≡◌, ◌⊎◌, inl, inr, List, Bool, Vec, Global, get_or, arith}
use Rattle.std.specs.List.{AllZip}
use Rattle.list_laws.proofs.Each.{All-held}
use Rattle.list_laws.proofs.Items.{holds_next}
use Rattle.air_expressions.specs.declared.base_expression.SymbolicExpression.{SymbolicExpression}
use Rattle.lookup.specs.Lookups.{lookups_of}
use Rattle.lookup_enforced.specs.Enforced.{EnforcesWeight}
use Rattle.lookup_model.specs.declared.types.Lookup.{Lookup}
use Rattle.batch_enforced.specs.EnforcedPlans.{constraints_of}
use Rattle.batch_enforced.specs.Weights.{EnforcesAllWeights, IsWeightFault, queried_airs, queries_of, query_lists}
use Rattle.batch_enforced.specs.declared.weights.WeightError.TheVariants.{Memory}
use Rattle.batch_enforced.proofs.WeightLaws.{along, length_queried, queried_there}
use Rattle.batch_enforced.proofs.weights.check_all_weights.Goals as goal

pub returns-in-Err : goal.returns-in-Err
returns-in-Err g c =
    let R = g.F.PrimeCharacteristicRing.ring in
    let eq = g.F.PartialEq.eq in
    let at = c.loop-air.air in
    let lists = c.index-queries-air.result in
    let list = c.index-constraints-air.result in
    let air = c.index-airs-air.result in
    let height = get_or c.args.heights.now at 0 in
    let there = queried_there c.args.queries.now c.args.constraints.now c.args.airs.now c.args.heights.now c.requires.heights c.requires.constraints c.requires.queries at lists list air c.loop-air-test.true c.index-queries-air.is c.index-constraints-air.is c.index-airs-air.is in
    let e = c.in-Err.error in
    let P : List (Vec Bool Global) → List (SymbolicExpression _) → List (Lookup _) → Type 0 = λ qs cs ls. (e ≡ Memory) ⊎ IsWeightFault R eq at (query_lists qs) cs ls height e in
    elim (along P _ lists.items _ list.items _ (lookups_of air) c.as_slice-queries.ensures.value c.as_slice-constraints.ensures.value c.as_slice-lookups.ensures.lookups c.in-Err.ensures) [
      | inl memory ↦ inl memory
      | inr fault ↦ inr (record { index = at; item = _; is_there = there; before = c.loop-air.invariant; fault = fault })
    ]

pub loop-air-preserved : goal.loop-air-preserved
loop-air-preserved g c =
    let R = g.F.PrimeCharacteristicRing.ring in
    let eq = g.F.PartialEq.eq in
    let at = c.loop-air.air in
    let lists = c.index-queries-air.result in
    let list = c.index-constraints-air.result in
    let air = c.index-airs-air.result in
    let height = get_or c.args.heights.now at 0 in
    let there = queried_there c.args.queries.now c.args.constraints.now c.args.airs.now c.args.heights.now c.requires.heights c.requires.constraints c.requires.queries at lists list air c.loop-air-test.true c.index-queries-air.is c.index-constraints-air.is c.index-airs-air.is in
    let P : List (Vec Bool Global) → List (SymbolicExpression _) → List (Lookup _) → Type 0 = λ qs cs ls. AllZip (EnforcesWeight R eq height cs) ls (query_lists qs) in
    holds_next (EnforcesAllWeights R eq) (queried_airs (queries_of c.args.queries.now) (constraints_of c.args.constraints.now) c.args.airs.now c.args.heights.now) at _ there
    (along P _ lists.items _ list.items _ (lookups_of air) c.as_slice-queries.ensures.value c.as_slice-constraints.ensures.value c.as_slice-lookups.ensures.lookups c.in-Ok.ensures) c.loop-air.invariant

pub returns : goal.returns
returns g c =
    let airs = queried_airs (queries_of c.args.queries.now) (constraints_of c.args.constraints.now) c.args.airs.now c.args.heights.now in
    All-held (EnforcesAllWeights g.F.PrimeCharacteristicRing.ring g.F.PartialEq.eq) airs c.loop-air.air
    (omega (arith, length_queried c.args.queries.now c.args.constraints.now c.args.airs.now c.args.heights.now c.requires.heights c.requires.constraints c.requires.queries, c.loop-air-test.false)) c.loop-air.invariant
