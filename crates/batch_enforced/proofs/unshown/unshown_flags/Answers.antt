use Rattle.std.proofs.Common.{All, List, subst₂, arith}
use Rattle.air_expressions.specs.Faults.{HasFirstFault}
use Rattle.air_expressions.specs.declared.base_expression.SymbolicExpression.{SymbolicExpression}
use Rattle.list_laws.proofs.Each.{All-held}
use Rattle.list_laws.proofs.Items.{holds_next}
use Rattle.lookup_enforced.specs.Enforced.{EnforcesFlags}
use Rattle.lookup_model.specs.declared.types.Lookup.{Lookup}
use Rattle.std.proofs.Common.{get_or}
use Rattle.batch_enforced.proofs.AirLaws.{air_there, length_airs}
use Rattle.batch_enforced.specs.EnforcedPlans.{HasEnforcedFlags, IsUnshown, constrained_airs, constraints_of}
use Rattle.batch_enforced.proofs.unshown.unshown_flags.Goals as goal

pub returns-in-Some : goal.returns-in-Some
returns-in-Some g c =
    let at = c.loop-air.air in
    let Enforces = EnforcesFlags g.F.PrimeCharacteristicRing.ring g.F.PartialEq.eq (get_or c.args.heights.now at 0) in
    let first = rw c.in-Some.is at c.in_ok-unshown.ensures in
    record {
      index = at;
      item = _;
      is_there = air_there c.args.constraints.now c.args.airs.now c.args.heights.now c.requires.heights c.requires.constraints at c.index-constraints-air.result c.index-airs-air.result c.loop-air-test.true c.index-constraints-air.is c.index-airs-air.is;
      before = c.loop-air.invariant;
      fault = subst₂ (λ (cs : List (SymbolicExpression _)) (ls : List (Lookup _)). HasFirstFault (Enforces cs) (λ i l. IsUnshown at i l c.in-Some.unshown) ls) c.as_slice-constraints.ensures.value c.as_slice-lookups.ensures.lookups first;
    }

pub loop-air-preserved : goal.loop-air-preserved
loop-air-preserved g c =
    let at = c.loop-air.air in
    let Enforces = EnforcesFlags g.F.PrimeCharacteristicRing.ring g.F.PartialEq.eq (get_or c.args.heights.now at 0) in
    let all = rw c.in_default.is at c.in_ok-unshown.ensures in
    let there = air_there c.args.constraints.now c.args.airs.now c.args.heights.now c.requires.heights c.requires.constraints at c.index-constraints-air.result c.index-airs-air.result c.loop-air-test.true c.index-constraints-air.is c.index-airs-air.is in
    holds_next (HasEnforcedFlags g.F.PrimeCharacteristicRing.ring g.F.PartialEq.eq) (constrained_airs (constraints_of c.args.constraints.now) c.args.airs.now c.args.heights.now) at _ there
    (subst₂ (λ (cs : List (SymbolicExpression _)) (ls : List (Lookup _)). All (Enforces cs) ls) c.as_slice-constraints.ensures.value c.as_slice-lookups.ensures.lookups all) c.loop-air.invariant

pub returns : goal.returns
returns g c =
    let airs = constrained_airs (constraints_of c.args.constraints.now) c.args.airs.now c.args.heights.now in
    All-held (HasEnforcedFlags g.F.PrimeCharacteristicRing.ring g.F.PartialEq.eq) airs c.loop-air.air (omega (arith, length_airs c.args.constraints.now c.args.airs.now c.args.heights.now c.requires.heights c.requires.constraints, c.loop-air-test.false)) c.loop-air.invariant
