use Rattle.std.proofs.Common.{inl, inr}
use Rattle.std.proofs.lemmas.Result.{MatchResult-weaker}
use Rattle.c_calls.proofs.AnswerLaws.{refused_is}
use Rattle.c_calls.proofs.pack.pack_tables.Goals as goal

pub returns-in_err-set : goal.returns-in_err-set
returns-in_err-set g c = rw (refused_is c.from_residual.result c.from_residual.ensures.1) (inl c.in_err-set.ensures)

pub returns-in_err-after : goal.returns-in_err-after
returns-in_err-after g c = rw (refused_is c.from_residual-in_err-after.result c.from_residual-in_err-after.ensures.1) (inr (c.in_ok-set.set, c.in_ok-set.ensures, inl c.in_err-after.ensures))

pub returns : goal.returns
returns g c = MatchResult-weaker c.tables_for.result c.tables_for.ensures
    (λ w made. (
      record {
        before = c.in_ok-set.set;
        encoded = c.in_ok-set.ensures;
        after = c.in_ok-after.after;
        packed = c.in_ok-after.ensures;
        written = made.0;
      },
      made.1,
    ))
    (λ fault refusal. inr (c.in_ok-set.set, c.in_ok-set.ensures, inr (c.in_ok-after.after, c.in_ok-after.ensures, refusal)))
