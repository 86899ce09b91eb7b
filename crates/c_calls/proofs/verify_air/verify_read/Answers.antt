use Rattle.std.proofs.Common.{inl, inr}
use Rattle.std.proofs.lemmas.Result.{MatchResult-weaker}
use Rattle.c_calls.proofs.AnswerLaws.{refused_is}
use Rattle.c_calls.proofs.verify_air.verify_read.Goals as goal

pub returns-in_err-check_fit : goal.returns-in_err-check_fit
returns-in_err-check_fit g c = rw (refused_is c.from_residual.result c.from_residual.ensures.1) (inl c.in_err-check_fit.ensures)

pub returns-in_err-check_enough : goal.returns-in_err-check_enough
returns-in_err-check_enough g c = rw (refused_is c.from_residual-in_err-check_enough.result c.from_residual-in_err-check_enough.ensures.1) (inr (inl c.in_err-check_enough.ensures))

pub returns : goal.returns
returns g c = MatchResult-weaker c.check_air.result c.check_air.ensures
    (λ _ satisfied. record { fitting = c.in_ok-check_fit.ensures; enough = c.in_ok-check_enough.ensures; satisfied = satisfied.0; summed = satisfied.1 })
    (λ fault refusal. inr (inr (record { fitting = c.in_ok-check_fit.ensures; enough = c.in_ok-check_enough.ensures; refusal = refusal })))
