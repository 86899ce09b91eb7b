use Rattle.air.specs.Traces.{traces_of}
use Rattle.c_calls.specs.Inputs.{view_of_read}
use Rattle.c_calls.proofs.GenerateLaws.{generated_over, refused_over}
use Rattle.c_calls.proofs.generate.generate_fitting.Goals as goal

pub returns-in-Ok : goal.returns-in-Ok
returns-in-Ok g c =
    generated_over _ (traces_of c.traces_as_one.result) (view_of_read c.args.traces.now) c.args.lookups.now c.args.challenges.now c.traces_as_one.ensures c.requires.fit
    c.in-Ok.auxiliary c.in-Ok.terminal c.in-Ok.ensures

pub returns-in-Err : goal.returns-in-Err
returns-in-Err g c =
    refused_over _ (traces_of c.traces_as_one.result) (view_of_read c.args.traces.now) c.args.lookups.now c.args.challenges.now c.traces_as_one.ensures c.requires.fit
    c.in-Err.error c.lookup_fault.result c.lookup_fault.ensures c.in-Err.ensures
