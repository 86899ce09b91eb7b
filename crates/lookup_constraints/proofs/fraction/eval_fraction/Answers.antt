use Rattle.std.proofs.Common.{[], inl, refl}
use Rattle.std.proofs.lemmas.Result.{err_from_is_err_and}
use Rattle.lookup_constraints.proofs.AssertedLaws.{evaluates_one, fails_here}
use Rattle.lookup_constraints.proofs.fraction.eval_fraction.Goals as goal

pub returns-in_err-constraint : goal.returns-in_err-constraint
returns-in_err-constraint g c =
    let p = err_from_is_err_and c.from_residual.result c.from_residual.ensures.1 in
    rw (p.1, p.2) (fails_here _ _ _ _ _ [] c.args.builder.now c.args.builder.now _ (inl (c.in_err-constraint.ensures, refl)))

pub returns : goal.returns
returns g c =
    evaluates_one _ _ _ _ _ c.args.builder.now _ c.in_ok-constraint.constraint c.assert_zero_ext.result c.in_ok-constraint.ensures c.assert_zero_ext.ensures
