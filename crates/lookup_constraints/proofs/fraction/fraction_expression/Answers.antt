use Rattle.std.proofs.Common.{◌∙◌, arith}
use Rattle.field.specs.Ring.{sub_in}
use Rattle.lookup_constraints.proofs.fraction.fraction_expression.Goals as goal

pub returns : goal.returns
returns g c =
    let S = g.AB.EF.PrimeCharacteristicRing.ring in
    let left = c.in_ok-fraction_equation.ensures in
    let quotient = c.in_ok-quotient.ensures in
    let fraction = c.fraction_cell-fraction.ensures in record {
      means = λ w stands. left.means (g.AB.ExtensionBuilder.seen_ext w) ∙ (λ i. sub_in S (S.mul (quotient.denominator w stands i) (fraction.means w stands i)) (quotient.numerator w stands i));
      within = λ t. omega (arith, left.degree_is t, quotient.degree t, fraction.within t);
    }
