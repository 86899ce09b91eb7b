use Rattle.std.proofs.Common.{◌∷◌, [], subst}
use Rattle.checker_batches.specs.internal.Sums.{AreSums}
use Rattle.checker_batches.proofs.SumSteps.{nothing_stays, some_sum, sums_freed}
use Rattle.checker_batches.proofs.sums.Sums.with_every_solution.Goals as goal

pub returns-in-Nothing : goal.returns-in-Nothing
returns-in-Nothing g c = λ equations e none nothing are.
    nothing_stays g.K.PrimeCharacteristicRing.lawful equations (e ∷ []) (subst (AreSums g.K.PrimeCharacteristicRing.ring equations) c.in-Nothing.is are)

pub returns-in-One : goal.returns-in-One
returns-in-One g c = λ equations e none nothing are.
    let laws = g.K.PrimeCharacteristicRing.lawful in
    let has = some_sum laws g.K.Field.inverse g.met.K.Field.inverse_is equations _ _ (subst (AreSums g.K.PrimeCharacteristicRing.ring equations) c.in-One.is are) in
    sums_freed laws equations e _ none nothing has

pub returns-in-Everything : goal.returns-in-Everything
returns-in-Everything g c = λ equations e none nothing are.
    let S = g.K.PrimeCharacteristicRing.ring in
    sums_freed g.K.PrimeCharacteristicRing.lawful equations e S.zero none nothing (subst (AreSums S equations) c.in-Everything.is are S.zero)
