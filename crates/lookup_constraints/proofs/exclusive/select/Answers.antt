use Rattle.std.proofs.Common.{◌+◌, max, ap, ◌∙◌}
use Rattle.lookup_constraints.proofs.exclusive.select.Goals as goal

pub returns : goal.returns
returns g c =
    let R = g.K.PrimeCharacteristicRing.ring in
    let value = g.E.Expression.value in
    let degree = g.E.Expression.degree in
    let sums = c.args.selection in record {
      numerator = record {
        means = λ s.
            let selected = c.in_ok-selected_numerator.ensures.means s ∙ ap (λ v. R.mul v (value c.args.numerator s)) (c.in_ok-copy.ensures.means s) in
            c.in_ok-add.ensures.means s ∙ ap (R.add (value sums.numerator s)) selected;
        degree_is = λ t.
            let selected = c.in_ok-selected_numerator.ensures.degree t ∙ ap (λ d. d + degree c.args.numerator t) (c.in_ok-copy.ensures.degree t) in
            c.in_ok-add.ensures.degree t ∙ ap (max (degree sums.numerator t)) selected;
      };
      denominator = record {
        means = λ s.
            let selected = c.in_ok-selected_denominator.ensures.means s ∙ ap (λ v. R.mul v (value c.args.denominator s)) (c.in_ok-copy-2.ensures.means s) in
            c.in_ok-add-2.ensures.means s ∙ ap (R.add (value sums.denominator s)) selected;
        degree_is = λ t.
            let selected = c.in_ok-selected_denominator.ensures.degree t ∙ ap (λ d. d + degree c.args.denominator t) (c.in_ok-copy-2.ensures.degree t) in
            c.in_ok-add-2.ensures.degree t ∙ ap (max (degree sums.denominator t)) selected;
      };
      flags = record { means = λ s. c.in_ok-add-3.ensures.means s; degree_is = λ t. c.in_ok-add-3.ensures.degree t };
    }
