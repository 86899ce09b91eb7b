use Rattle.std.proofs.Common.{◌≡◌, ◌<◌, ◌≤◌, ℕ, List, Option, inl, inr, length, sym, ◌∙◌, arith}
use Rattle.std.proofs.lemmas.List.{length-map}
use Rattle.std.proofs.lemmas.Result.{err_from_is_err_and}
use Rattle.std.proofs.lemmas.Slice.Zip.{length-zip}
use Rattle.std.specs.List.{zip}
use Rattle.list_laws.proofs.Zips.{pair_at, BothHoldBelow, both_hold_next, AllZip-held}
use Rattle.matrix.specs.Matrix.{Matrix}
use Rattle.field.specs.Extension.{Extension}
use Rattle.lookup_model.specs.Challenges.{ChallengeTable, table_of}
use Rattle.field.specs.laws.Extension.{of_laws}
use Rattle.lookup_model.specs.Batches.Instances.{instance_of, instances_of}
use Rattle.lookup_model.specs.Batches.Witnesses.{AreSatisfied, IsSatisfiedAt}
use Rattle.lookup_model.specs.declared.instance.BatchInstance.{BatchInstance}
use Rattle.lookup_model.specs.declared.types.LookupTerminal.{LookupTerminal}
use Rattle.checker_witness.proofs.InstanceLaws.{fitting_all, instance_there}
use Rattle.checker_witness.proofs.WitnessLaws.{only_from, refuses_from, witness_from}
use Rattle.checker_witness.proofs.witness.check_witness.Goals as goal

pub returns-in_err-check_result-clause-answer : goal.returns-in_err-check_result-clause-answer
returns-in_err-check_result-clause-answer g c =
    let lt : c.loop-air.air < length c.args.instances.now = c.loop-air-test.true in
    let p = err_from_is_err_and c.from_residual.result c.from_residual.ensures.1 in
    rw (p.1, p.2) (elim c.in_err-check_result.ensures [
      | inl memory ↦ inl memory
      | inr refusal ↦ inr (inl (record {
        air = c.loop-air.air;
        instance = instance_of c.index-instances-air.result;
        result = (c.index-aux-air.result, c.index-terminals-air.result);
        is_there = instance_there c.args.instances.now c.loop-air.air c.index-instances-air.result lt c.index-instances-air.is;
        result_is_there = pair_at c.args.aux.now c.args.terminals.now c.loop-air.air c.index-aux-air.result c.index-terminals-air.result (omega (arith, lt, c.requires.parts.0)) (omega (arith, lt, c.requires.parts.1)) c.index-aux-air.is c.index-terminals-air.is;
        before = c.loop-air.invariant;
        refusal = refusal;
      }))
    ])

pub returns-in_err-check_result-clause-refusal : goal.returns-in_err-check_result-clause-refusal
returns-in_err-check_result-clause-refusal g c = refuses_from _ _ _ _ c.from_residual.result (returns-in_err-check_result-clause-answer g c)

pub loop-air-preserved : goal.loop-air-preserved
loop-air-preserved g c =
    let lt : c.loop-air.air < length c.args.instances.now = c.loop-air-test.true in
    both_hold_next (IsSatisfiedAt (of_laws g.met.EF.ExtensionField.lawful_fields) (table_of c.args.challenges.now)) (instances_of c.args.instances.now) (zip c.args.aux.now c.args.terminals.now) c.loop-air.air (instance_of c.index-instances-air.result) (c.index-aux-air.result, c.index-terminals-air.result)
    (instance_there c.args.instances.now c.loop-air.air c.index-instances-air.result lt c.index-instances-air.is)
    (pair_at c.args.aux.now c.args.terminals.now c.loop-air.air c.index-aux-air.result c.index-terminals-air.result (omega (arith, lt, c.requires.parts.0)) (omega (arith, lt, c.requires.parts.1)) c.index-aux-air.is c.index-terminals-air.is)
    c.in_ok-check_result.ensures.0 c.loop-air.invariant

-- all results are satisfied, when all rows are done
all_satisfied : {F K : Type 0} (E : Extension F K) (table : ChallengeTable K) (bs : List (BatchInstance F)) (aux : List (Matrix K)) (terminals : List (Option (LookupTerminal K))) (n : ℕ) → length bs ≤ n → length aux ≡ length bs → length terminals ≡ length bs
    → BothHoldBelow (IsSatisfiedAt E table) (instances_of bs) (zip aux terminals) n → AreSatisfied E table (instances_of bs) (zip aux terminals)
all_satisfied E table bs aux terminals n done aux_are terminals_are below =
    AllZip-held (IsSatisfiedAt E table) (instances_of bs) (zip aux terminals) (omega (arith, length-map bs instance_of, length-zip aux terminals, aux_are, terminals_are))
    (λ k i r lt. below k i r (omega (arith, lt, length-map bs instance_of, done)))

pub returns-clause-answer : goal.returns-clause-answer
returns-clause-answer g c =
    let parts = c.requires.parts in
    witness_from _ _ _ c.args.aux.now c.args.terminals.now (parts.0 ∙ sym parts.1) (all_satisfied _ _ c.args.instances.now c.args.aux.now c.args.terminals.now c.loop-air.air (omega (arith, c.loop-air-test.false)) parts.0 parts.1 c.loop-air.invariant) c.verify_terminal_sum.result c.verify_terminal_sum.ensures

pub returns-clause-refusal : goal.returns-clause-refusal
returns-clause-refusal g c = refuses_from _ _ _ _ c.verify_terminal_sum.result (returns-clause-answer g c)

pub returns-clause-only : goal.returns-clause-only
returns-clause-only g c =
    let parts = c.requires.parts in
    only_from _ _ _ c.args.aux.now c.args.terminals.now (parts.0 ∙ sym parts.1) (all_satisfied _ _ c.args.instances.now c.args.aux.now c.args.terminals.now c.loop-air.air (omega (arith, c.loop-air-test.false)) parts.0 parts.1 c.loop-air.invariant)
    g.met.EF.ExtensionField.lawful_fields (fitting_all c.args.instances.now c.requires.ready.0) c.verify_terminal_sum.result
