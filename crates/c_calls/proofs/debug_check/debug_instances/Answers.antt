use Rattle.std.proofs.Common.{◌∙◌, inr}
use Rattle.std.proofs.lemmas.List.{take_all}
use Rattle.std.proofs.lemmas.List.Elements.{All-push, All-same}
use Rattle.lookup_debug.specs.Contributions.{IsTracedFitting, traced_of}
use Rattle.c_calls.specs.DebugCheck.{all_debug_traced}
use Rattle.c_calls.proofs.DebugLaws.{all_taken, traced_next, unfit_there}
use Rattle.c_calls.proofs.AnswerLaws.{refused_is}
use Rattle.c_calls.proofs.debug_check.debug_instances.Goals as goal

pub returns-in_err-debug_instance : goal.returns-in_err-debug_instance
returns-in_err-debug_instance g c = rw (refused_is c.from_residual-in_err-debug_instance.result c.from_residual-in_err-debug_instance.ensures.1) (inr (unfit_there c.args.sets.now c.args.traces.now c.loop-air.air c.index-sets-air.result c.index-traces-air.result c.loop-air-test.true c.requires c.index-sets-air.is c.index-traces-air.is _ c.loop-air.instances.items c.loop-air.invariant.traced c.loop-air.invariant.fit c.in_err-debug_instance.ensures))

pub loop-air-preserved : goal.loop-air-preserved
loop-air-preserved g c = record {
  traced = traced_next c.args.sets.now c.args.traces.now c.loop-air.air c.index-sets-air.result c.index-traces-air.result c.loop-air-test.true c.requires c.index-sets-air.is c.index-traces-air.is c.loop-air.instances.items _ c.in_ok-debug_instance.field-0 c.in_ok-push.ensures.items c.in_ok-debug_instance.ensures.0 c.loop-air.invariant.traced;
  fit = All-same (λ i. IsTracedFitting (traced_of i)) _ _ c.in_ok-push.ensures.items (All-push (λ i. IsTracedFitting (traced_of i)) c.loop-air.instances.items c.in_ok-debug_instance.field-0 c.loop-air.invariant.fit c.in_ok-debug_instance.ensures.1);
}

pub returns : goal.returns
returns g c = (c.loop-air.invariant.traced ∙ take_all c.loop-air.air (all_debug_traced c.args.sets.now c.args.traces.now) (all_taken c.args.sets.now c.args.traces.now c.loop-air.air c.requires c.loop-air-test.false), c.loop-air.invariant.fit)
