use Rattle.std.proofs.Common.{subst, refl}
use Rattle.checker_batches.specs.internal.Sums.{AreSums}
use Rattle.checker_batches.proofs.SumSteps.{zero_of_one}
use Rattle.checker_batches.proofs.sums.Sums.has_zero.Goals as goal

pub returns-in-Nothing : goal.returns-in-Nothing
returns-in-Nothing g c = λ equations are.
    let S = g.K.PrimeCharacteristicRing.ring in
    ((λ e. cc e), (λ sums. absurd (subst (AreSums S equations) c.in-Nothing.is are S.zero sums)))

pub returns-in-One : goal.returns-in-One
returns-in-One g c = λ equations are.
    let zero = zero_of_one g.K.PrimeCharacteristicRing.lawful equations c.in-One.numerator _ (subst (AreSums g.K.PrimeCharacteristicRing.ring equations) c.in-One.is are) in
    ((λ held. zero.0 (c.is_zero.ensures.0 held)), (λ sums. c.is_zero.ensures.1 (zero.1 sums)))

pub returns-in-Everything : goal.returns-in-Everything
returns-in-Everything g c = λ equations are.
    let S = g.K.PrimeCharacteristicRing.ring in
    ((λ held. subst (AreSums S equations) c.in-Everything.is are S.zero), (λ sums. refl))
