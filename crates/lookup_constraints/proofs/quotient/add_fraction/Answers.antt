use Rattle.std.proofs.Common.{◌+◌, max, ap, ◌∙◌}
use Rattle.lookup_constraints.proofs.quotient.add_fraction.Goals as goal

pub returns : goal.returns
returns g c =
    let R = g.K.PrimeCharacteristicRing.ring in
    let value = g.E.Expression.value in
    let degree = g.E.Expression.degree in
    let q = c.args.quotient in record {
      numerator = record {
        means = λ s.
            let raised = c.in_ok-raised.ensures.means s ∙ ap (R.mul (value q.numerator s)) (c.in_ok-copy.ensures.means s) in
            let added = c.in_ok-added.ensures.means s ∙ ap (R.mul (value c.args.numerator s)) (c.in_ok-copy-2.ensures.means s) in
            c.in_ok-add.ensures.means s ∙ (λ i. R.add (raised i) (added i));
        degree_is = λ t.
            let raised = c.in_ok-raised.ensures.degree t ∙ ap (λ d. degree q.numerator t + d) (c.in_ok-copy.ensures.degree t) in
            let added = c.in_ok-added.ensures.degree t ∙ ap (λ d. degree c.args.numerator t + d) (c.in_ok-copy-2.ensures.degree t) in
            c.in_ok-add.ensures.degree t ∙ (λ i. max (raised i) (added i));
      };
      denominator = record { means = λ s. c.in_ok-mul.ensures.means s; degree_is = λ t. c.in_ok-mul.ensures.degree t };
    }
