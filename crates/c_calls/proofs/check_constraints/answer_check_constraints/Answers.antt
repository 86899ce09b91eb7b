use Rattle.c_calls.proofs.ConstraintLaws.{checks_tables}
use Rattle.c_calls.proofs.check_constraints.answer_check_constraints.Goals as goal

pub returns : goal.returns
returns g c =
    checks_tables g.K.MontyParameters.positive _ c.args.tables.now c.args.constraints.now c.args.traces.now c.check_read.result c.in_ok-read.read c.in_ok-list.list.items c.deref.result.now
    c.in_ok-list.ensures c.in_ok-read.ensures c.deref.ensures.value c.check_read.ensures
