use Rattle.std.proofs.Common.{◌++◌, ◌∷◌, [], subst, subst₂, sym, ◌∙◌}
use Rattle.lookup_model.specs.internal.Equations.{Equation}
use Rattle.checker_batches.specs.declared.sums.Sums.TheVariants.{One}
use Rattle.checker_batches.specs.internal.Sums.{AreSums}
use Rattle.checker_batches.proofs.SumSteps.{nothing_stays, sums_all, sums_moved}
use Rattle.checker_batches.proofs.sums.Sums.with_one_solution.Goals as goal

pub returns-in-Nothing : goal.returns-in-Nothing
returns-in-Nothing g c = λ equations are.
    nothing_stays g.K.PrimeCharacteristicRing.lawful equations (record { numerator = c.args.numerator; denominator = c.args.denominator } ∷ []) (subst (AreSums g.K.PrimeCharacteristicRing.ring equations) c.in-Nothing.is are)

pub returns-in-One : goal.returns-in-One
returns-in-One g c = λ equations are.
    let S = g.K.PrimeCharacteristicRing.ring in
    let met = g.met.K.PrimeCharacteristicRing in
    let e : Equation _ = record { numerator = c.args.numerator; denominator = c.args.denominator } in
    let n_is = met.add_is _ _ _ c.add.ensures ∙ (λ i. S.add (met.mul_is _ _ _ c.mul.ensures i) (met.mul_is _ _ _ c.mul-in-One.ensures i)) in
    let d_is = met.mul_is _ _ _ c.mul-in-One-2.ensures in
    subst₂ (λ a b. AreSums S (equations ++ e ∷ []) (One a b)) (sym n_is) (sym d_is)
    (sums_moved g.K.PrimeCharacteristicRing.lawful g.K.Field.inverse g.met.K.Field.inverse_is equations e c.requires g.met.K.Domain.domain c.in-One.n c.in-One.d (subst (AreSums S equations) c.in-One.is are))

pub returns-in-Everything : goal.returns-in-Everything
returns-in-Everything g c = λ equations are.
    sums_all g.K.PrimeCharacteristicRing.lawful g.K.Field.inverse g.met.K.Field.inverse_is equations (record { numerator = c.args.numerator; denominator = c.args.denominator }) c.requires (subst (AreSums g.K.PrimeCharacteristicRing.ring equations) c.in-Everything.is are)
