use Rattle.std.proofs.Common.{rules, ℕ, Option, Result, subst}
use Rattle.lookup_model.specs.declared.error.LookupError.{LookupError}
use Rattle.lookup_model.specs.declared.sum_degrees.SumDegrees.{SumDegrees}
use Rattle.lookup.specs.Fewest.{AnswersDegree}
use Rattle.lookup.specs.internal.TrialDegrees.{KeepsDegrees}
use Rattle.lookup.proofs.DegreeLaws.{answers_kept}
use Rattle.lookup.proofs.packing.degrees.GadgetDegreesTrialDegrees.is_above.Goals as goal

pub returns : goal.returns
returns g c = λ above o keeps.
    let answered = answers_kept o c.in-Some.sum c.degree.result c.degree.ensures (search rules) (subst (λ (k : Option SumDegrees). KeepsDegrees k o) c.in-Some.is keeps) in
    (c.in-Ok.degree, subst (λ (r : Result ℕ LookupError). AnswersDegree o r) c.in-Ok.is answered, search rules)
