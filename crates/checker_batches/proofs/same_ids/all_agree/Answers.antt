use Rattle.checker_batches.proofs.same_ids.all_agree.Goals as goal

pub returns : goal.returns
returns g c = (
  λ e. (c.agree-own.ensures.0 (cc c.if-not-own.false), c.agree-between.ensures.0 (cc c.if-not-between.false), c.agree.ensures.0 e),
  λ all. c.agree.ensures.1 all.2,
)
