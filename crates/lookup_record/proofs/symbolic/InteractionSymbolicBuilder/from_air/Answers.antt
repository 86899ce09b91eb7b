use Rattle.std.proofs.Common.{ap, inr, sym, ◌∙◌}
use Rattle.std.proofs.lemmas.Result.{err_from_is_err_and}
use Rattle.lookup_record.specs.RecordedWithin.{nothing-within}
use Rattle.lookup_record.proofs.symbolic.InteractionSymbolicBuilder.from_air.Goals as goal

pub returns-in_err-eval-clause-evaluates : goal.returns-in_err-eval-clause-evaluates
returns-in_err-eval-clause-evaluates g c same =
    let p = err_from_is_err_and c.from_residual-in_err-eval.result c.from_residual-in_err-eval.ensures.1 in
    rw (p.1, p.2) (inr (c.in_ok-builder.builder, c.eval.new.builder, c.in_ok-builder.ensures.new, c.in_err-eval.ensures))

pub returns-clause-within : goal.returns-clause-within
returns-clause-within g c keeps = keeps _ _ c.in_ok-eval.ensures (nothing-within _ _ c.in_ok-builder.ensures.new)

pub returns-clause-layout : goal.returns-clause-layout
returns-clause-layout g c = g.met.A.Air.keeps_layout _ _ _ c.in_ok-eval.ensures ∙ ap (λ r. r.constraints.layout) c.in_ok-builder.ensures.new

pub returns-clause-evaluates : goal.returns-clause-evaluates
returns-clause-evaluates g c same = (c.in_ok-builder.builder, c.in_ok-builder.ensures.new, c.in_ok-eval.ensures)

pub returns-clause-mismatch : goal.returns-clause-mismatch
returns-clause-mismatch g c e is = absurd (cc (sym c.in_ok-validate_against_air.ensures ∙ is))

pub returns-in_err-builder-clause-mismatch : goal.returns-in_err-builder-clause-mismatch
returns-in_err-builder-clause-mismatch g c e is = absurd (cc (sym c.in_ok-validate_against_air.ensures ∙ is))

pub returns-in_err-eval-clause-mismatch : goal.returns-in_err-eval-clause-mismatch
returns-in_err-eval-clause-mismatch g c e is = absurd (cc (sym c.in_ok-validate_against_air.ensures ∙ is))
