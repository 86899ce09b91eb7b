use Rattle.std.proofs.Common.{◌++◌, ◌∷◌, [], refl, subst}
use Rattle.lookup_model.specs.internal.Equations.{Equation}
use Rattle.lookup_messages.specs.TraceBuilder.{ext_builder_window}
use Rattle.checker_batches.specs.internal.Sums.{AreSums}
use Rattle.checker_batches.proofs.existence.with_lookup_equation.Goals as goal

pub returns : goal.returns
returns g c = λ equations are.
    let w = ext_builder_window c.args.builder.now in
    let n = c.in_ok-quotient.ensures.numerator w refl in
    let d = c.in_ok-quotient.ensures.denominator w refl in
    subst (λ (e : Equation _). AreSums g.EF.PrimeCharacteristicRing.ring (equations ++ e ∷ []) c.plus.result) (λ i. record { numerator = n i; denominator = d i }) (c.plus.ensures equations are)
