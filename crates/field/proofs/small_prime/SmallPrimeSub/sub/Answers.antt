use Rattle.std.proofs.Common.{◌∙◌}
use Rattle.field.proofs.StoredValues.{difference_of}
use Rattle.field.proofs.small_prime.SmallPrimeSub.sub.Goals as goal

pub returns : goal.returns
returns g c =
    c.new.ensures ∙ difference_of g.K.SmallPrimeParameters.positive c.args.self c.args.rhs c.number.result c.number-2.result c.number.ensures.value c.number-2.ensures.value
