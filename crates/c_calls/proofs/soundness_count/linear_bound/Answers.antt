use Rattle.std.proofs.Common.{◌∙◌}
use Rattle.c_calls.proofs.soundness_count.linear_bound.Goals as goal

pub returns : goal.returns
returns c = λ W is. c.halves.ensures ∙ c.linear_bad_betas.ensures W is
