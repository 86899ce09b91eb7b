use Rattle.std.proofs.Common.{◌<◌, List, Option, All, Err, Ok, ap, length, sym, subst, ◌∙◌, arith}
use Rattle.std.proofs.lemmas.Result.{err_from_is_err_and}
use Rattle.std.proofs.lemmas.Slice.Zip.{length-zip}
use Rattle.list_laws.proofs.Each.{All-there}
use Rattle.list_laws.proofs.Zips.{AllZip-held, both_hold_next, pair_at, seconds}
use Rattle.field.specs.laws.Extension.{of_laws}
use Rattle.lookup_model.specs.Batches.Instances.{IsFitting, instance_of}
use Rattle.lookup_model.specs.Batches.Witnesses.{AirResult, IsSatisfiedAt, results_of}
use Rattle.lookup_model.specs.declared.types.LookupTerminal.{LookupTerminal}
use Rattle.checker_witness.specs.Results.{ChecksSum}
use Rattle.batch.proofs.MadeTables.{checked_over}
use Rattle.batch.proofs.PlanCalls.{batch_below, batch_fits, instance_there, length_of_batch}
use Rattle.batch.specs.Plans.{plan_batch}
use Rattle.batch.specs.Runs.{plan_of}
use Rattle.batch.specs.Tables.{made_table}
use Rattle.batch.proofs.plan.BatchPlan.check_results.Goals as goal

pub index-requires-in-loop-air-2 : goal.index-requires-in-loop-air-2
index-requires-in-loop-air-2 g c =
    let self = c.args.self.now in
    omega (arith, c.requires.parts.0, length_of_batch g.F.PrimeCharacteristicRing.CHARACTERISTIC (plan_of self) self.facts c.args.traces.now c.requires.traces, c.loop-air-test.true, c.len-air-end.ensures, self.airs.ok.0)

pub index-requires-in-loop-air-3 : goal.index-requires-in-loop-air-3
index-requires-in-loop-air-3 g c =
    let self = c.args.self.now in
    omega (arith, c.requires.parts.1, length_of_batch g.F.PrimeCharacteristicRing.CHARACTERISTIC (plan_of self) self.facts c.args.traces.now c.requires.traces, c.loop-air-test.true, c.len-air-end.ensures, self.airs.ok.0)

pub check_in_columns-requires-clause-columns : goal.check_in_columns-requires-clause-columns
check_in_columns-requires-clause-columns g c =
    let self = c.args.self.now in
    let p = g.F.PrimeCharacteristicRing.CHARACTERISTIC in
    let lt : c.loop-air.air < length self.airs.items = omega (arith, c.loop-air-test.true, c.len-air-end.ensures, self.airs.ok.0) in
    let there = instance_there p self.airs.items self.heights.items self.ids.items self.max_message_width self.num_ids self.facts c.args.traces.now c.requires.traces c.loop-air.air c.index-in-loop-air.result.now c.index.result.now c.index-traces-air.result lt c.index-in-loop-air.ensures c.index.ensures c.index-traces-air.is c.air_over-instance.result c.air_over-instance.ensures in
    let fitting = All-there IsFitting (plan_batch (plan_of self) c.args.traces.now) c.loop-air.air (instance_of c.air_over-instance.result) (batch_fits p (plan_of self) self.facts c.args.traces.now c.requires.traces) there in record {
      fit = fitting.fit;
      heights = fitting.heights;
      enough = omega (arith, fitting.ids, ap length c.deref.ensures.value, c.in_ok-challenges.ensures.len);
    }

pub check_in_columns-requires-clause-nonempty : goal.check_in_columns-requires-clause-nonempty
check_in_columns-requires-clause-nonempty g c =
    let self = c.args.self.now in
    let p = g.F.PrimeCharacteristicRing.CHARACTERISTIC in
    let lt : c.loop-air.air < length self.airs.items = omega (arith, c.loop-air-test.true, c.len-air-end.ensures, self.airs.ok.0) in
    let there = instance_there p self.airs.items self.heights.items self.ids.items self.max_message_width self.num_ids self.facts c.args.traces.now c.requires.traces c.loop-air.air c.index-in-loop-air.result.now c.index.result.now c.index-traces-air.result lt c.index-in-loop-air.ensures c.index.ensures c.index-traces-air.is c.air_over-instance.result c.air_over-instance.ensures in
    (All-there IsFitting (plan_batch (plan_of self) c.args.traces.now) c.loop-air.air (instance_of c.air_over-instance.result) (batch_fits p (plan_of self) self.facts c.args.traces.now c.requires.traces) there).nonempty

pub returns-in_err-check_in_columns : goal.returns-in_err-check_in_columns
returns-in_err-check_in_columns g c =
    let E = of_laws g.met.EF.ExtensionField.lawful_fields in
    let self = c.args.self.now in
    let witness = c.args.witness.now in
    let p = g.F.PrimeCharacteristicRing.CHARACTERISTIC in
    let air = c.loop-air.air in
    let batch = plan_batch (plan_of self) c.args.traces.now in
    let lt : air < length self.airs.items = omega (arith, c.loop-air-test.true, c.len-air-end.ensures, self.airs.ok.0) in
    let long = length_of_batch p (plan_of self) self.facts c.args.traces.now c.requires.traces in
    let there = instance_there p self.airs.items self.heights.items self.ids.items self.max_message_width self.num_ids self.facts c.args.traces.now c.requires.traces c.loop-air.air c.index-in-loop-air.result.now c.index.result.now c.index-traces-air.result lt c.index-in-loop-air.ensures c.index.ensures c.index-traces-air.is c.air_over-instance.result c.air_over-instance.ensures in
    let i = instance_of c.air_over-instance.result in
    let result : AirResult _ = (c.index-in-loop-air-2.result.now, c.index-in-loop-air-3.result.now) in
    let result_there = pair_at witness.aux.items witness.terminals.items air c.index-in-loop-air-2.result.now c.index-in-loop-air-3.result.now (omega (arith, lt, long, c.requires.parts.0)) (omega (arith, lt, long, c.requires.parts.1)) c.index-in-loop-air-2.ensures c.index-in-loop-air-3.ensures in
    let below = All-there (λ i. All (λ id. id < self.num_ids) i.ids) batch air i (batch_below p (plan_of self) self.facts c.args.traces.now c.requires.traces) there in
    let checked = checked_over E c.args.alpha c.args.beta self.max_message_width self.num_ids i below c.deref.result.now (c.deref.ensures.value ∙ c.in_ok-challenges.ensures.challenges) result air (Err c.in_err-check_in_columns.field-0.0) c.in_err-check_in_columns.ensures in
    let q = err_from_is_err_and c.from_residual-in_err-check_in_columns.result c.from_residual-in_err-check_in_columns.ensures.1 in
    rw (q.1, q.2) ((c.results_join.ensures (made_table E.ring c.args.alpha c.args.beta self.max_message_width self.num_ids) batch (results_of witness)).refused air i result c.in_err-check_in_columns.field-0.0 there result_there c.loop-air.invariant checked)

pub loop-air-preserved : goal.loop-air-preserved
loop-air-preserved g c =
    let E = of_laws g.met.EF.ExtensionField.lawful_fields in
    let self = c.args.self.now in
    let witness = c.args.witness.now in
    let p = g.F.PrimeCharacteristicRing.CHARACTERISTIC in
    let air = c.loop-air.air in
    let batch = plan_batch (plan_of self) c.args.traces.now in
    let lt : air < length self.airs.items = omega (arith, c.loop-air-test.true, c.len-air-end.ensures, self.airs.ok.0) in
    let long = length_of_batch p (plan_of self) self.facts c.args.traces.now c.requires.traces in
    let there = instance_there p self.airs.items self.heights.items self.ids.items self.max_message_width self.num_ids self.facts c.args.traces.now c.requires.traces c.loop-air.air c.index-in-loop-air.result.now c.index.result.now c.index-traces-air.result lt c.index-in-loop-air.ensures c.index.ensures c.index-traces-air.is c.air_over-instance.result c.air_over-instance.ensures in
    let i = instance_of c.air_over-instance.result in
    let result : AirResult _ = (c.index-in-loop-air-2.result.now, c.index-in-loop-air-3.result.now) in
    let result_there = pair_at witness.aux.items witness.terminals.items air c.index-in-loop-air-2.result.now c.index-in-loop-air-3.result.now (omega (arith, lt, long, c.requires.parts.0)) (omega (arith, lt, long, c.requires.parts.1)) c.index-in-loop-air-2.ensures c.index-in-loop-air-3.ensures in
    let below = All-there (λ i. All (λ id. id < self.num_ids) i.ids) batch air i (batch_below p (plan_of self) self.facts c.args.traces.now c.requires.traces) there in
    let checked = checked_over E c.args.alpha c.args.beta self.max_message_width self.num_ids i below c.deref.result.now (c.deref.ensures.value ∙ c.in_ok-challenges.ensures.challenges) result air (Ok _) c.in_ok-check_in_columns.ensures in
    both_hold_next (IsSatisfiedAt E (made_table E.ring c.args.alpha c.args.beta self.max_message_width self.num_ids)) batch (results_of witness) air i result there result_there checked.0 c.loop-air.invariant

pub returns : goal.returns
returns g c =
    let E = of_laws g.met.EF.ExtensionField.lawful_fields in
    let self = c.args.self.now in
    let witness = c.args.witness.now in
    let batch = plan_batch (plan_of self) c.args.traces.now in
    let table = made_table E.ring c.args.alpha c.args.beta self.max_message_width self.num_ids in
    let parts = c.requires.parts in
    let long = length_of_batch g.F.PrimeCharacteristicRing.CHARACTERISTIC (plan_of self) self.facts c.args.traces.now c.requires.traces in
    let satisfied = AllZip-held (IsSatisfiedAt E table) batch (results_of witness) (omega (arith, length-zip witness.aux.items witness.terminals.items, parts.0, parts.1))
    (λ k i r lt. c.loop-air.invariant k i r (omega (arith, lt, long, c.loop-air-test.false, c.len-air-end.ensures, self.airs.ok.0))) in
    (c.results_join.ensures table batch (results_of witness)).summed satisfied c.verify_terminal_sum.result
    (subst (λ (terminals : List (Option (LookupTerminal _))). ChecksSum E terminals c.verify_terminal_sum.result) (c.as_slice.ensures.value ∙ sym (seconds witness.aux.items witness.terminals.items (parts.0 ∙ sym parts.1))) c.verify_terminal_sum.ensures)
