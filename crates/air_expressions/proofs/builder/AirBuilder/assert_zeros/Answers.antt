use Rattle.std.proofs.lemmas.Result.{err_from_is_err_and}
use Rattle.list_laws.proofs.Items.{split_here, split_more}
use Rattle.air_expressions.proofs.Assertions.{accepts_more, refuses_after}
use Rattle.air_expressions.proofs.builder.AirBuilder.assert_zeros.Goals as goal

pub loop-x-preserved : goal.loop-x-preserved
loop-x-preserved g c =
    (accepts_more _ _ _ _ _ _ c.loop-x.invariant.0 c.in_ok-assert_zero.ensures, split_more _ _ _ _ _ c.loop-x.invariant.1 c.in-Some.ensures.steps.0)

pub returns-in_err-assert_zero : goal.returns-in_err-assert_zero
returns-in_err-assert_zero g c =
    let p = err_from_is_err_and c.from_residual.result c.from_residual.ensures.1 in
    rw (p.1, p.2) (refuses_after _ _ _ _ _ _ _ _ _ _ c.loop-x.invariant.0 c.in_err-assert_zero.ensures
    (split_here _ _ _ _ _ c.loop-x.invariant.1 c.in-Some.ensures.steps.0))
