use Rattle.air.specs.Traces.{traces_of}
use Rattle.c_calls.specs.Inputs.{view_of_read}
use Rattle.c_calls.proofs.ColumnChecks.{satisfied_over, unsatisfied_over}
use Rattle.c_calls.proofs.verify_air.check_air.Goals as goal

pub returns-in-Ok : goal.returns-in-Ok
returns-in-Ok g c = satisfied_over _ (traces_of c.traces_as_one-one.result) (view_of_read c.args.traces.now) c.args.lookups.now c.args.challenges.now (c.args.result_of.now.auxiliary, c.args.result_of.now.terminal) c.traces_as_one-one.ensures c.in-Ok.ensures

pub returns-in-Err : goal.returns-in-Err
returns-in-Err g c =
    unsatisfied_over _ (traces_of c.traces_as_one-one.result) (view_of_read c.args.traces.now) c.args.lookups.now c.args.challenges.now (c.args.result_of.now.auxiliary, c.args.result_of.now.terminal) c.traces_as_one-one.ensures
    c.in-Err.error c.check_fault.result c.check_fault.ensures c.in-Err.ensures
