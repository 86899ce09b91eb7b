use Rattle.std.proofs.Common.{◌≡◌, max, arith, rules}
use Rattle.std.proofs.lemmas.Result.{err_from_is_err_and}
use Rattle.lookup_model.proofs.SumDegreeLaws.{denominator_of_both, greater_of_both}
use Rattle.lookup_model.proofs.sum_degrees.SumDegrees.plus.Goals as goal

pub returns-in_err-left : goal.returns-in_err-left
returns-in_err-left c = λ first second a b.
    let p = err_from_is_err_and c.from_residual.result c.from_residual.ensures.1 in
    rw (p.1, p.2) (c.in_err-left.ensures.0, omega (arith, c.in_err-left.ensures.1, a.denominator, a.greatest, b.denominator, b.greatest, greater_of_both first second))

pub returns-in_err-right : goal.returns-in_err-right
returns-in_err-right c = λ first second a b.
    let p = err_from_is_err_and c.from_residual-in_err-right.result c.from_residual-in_err-right.ensures.1 in
    rw (p.1, p.2) (c.in_err-right.ensures.0, omega (arith, c.in_err-right.ensures.1, a.denominator, a.greatest, b.denominator, b.greatest, greater_of_both first second))

pub returns : goal.returns
returns c = λ first second a b.
    let greater : c.max.result ≡ max c.in_ok-left.left c.in_ok-right.right = search rules in record {
      denominator = omega (arith, c.in_ok-sum_of_degrees.ensures, a.denominator, b.denominator, denominator_of_both first second);
      greatest = omega (arith, greater, c.in_ok-left.ensures, c.in_ok-right.ensures, a.denominator, a.greatest, b.denominator, b.greatest, greater_of_both first second);
    }
