use Rattle.std.proofs.Common.{Option, subst}
use Rattle.lookup_model.specs.declared.sum_degrees.SumDegrees.{SumDegrees}
use Rattle.lookup.proofs.DegreeLaws.{kept_of_both, none_of_first, none_of_second}
use Rattle.lookup.specs.internal.TrialDegrees.{KeepsDegrees}
use Rattle.lookup.proofs.packing.degrees.GadgetDegreesTrialDegrees.keep_trial.Goals as goal

pub returns-in_err-column : goal.returns-in_err-column
returns-in_err-column g c = λ a b first second.
    rw c.from_residual.ensures (none_of_first a b c.args.next (subst (λ (k : Option SumDegrees). KeepsDegrees k a) c.in_err-column.was first) second)

pub returns-in_err-next : goal.returns-in_err-next
returns-in_err-next g c = λ a b first second.
    rw c.from_residual-in_err-next.ensures (none_of_second a b c.args.column first (subst (λ (k : Option SumDegrees). KeepsDegrees k b) c.in_err-next.was second))

pub returns : goal.returns
returns g c = λ a b first second.
    rw c.ok.ensures.value (kept_of_both a b c.in_ok-column.field-0 c.in_ok-next.field-0 c.plus.result c.plus.ensures
    (subst (λ (k : Option SumDegrees). KeepsDegrees k a) c.in_ok-column.was first)
    (subst (λ (k : Option SumDegrees). KeepsDegrees k b) c.in_ok-next.was second))
