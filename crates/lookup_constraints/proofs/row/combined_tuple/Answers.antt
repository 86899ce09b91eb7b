use Rattle.std.proofs.Common.{◌≤◌, ◌+◌, ℕ, map, take, ap, sym, ◌∙◌, arith}
use Rattle.std.proofs.lemmas.List.{take_all}
use Rattle.list_laws.proofs.Images.{map-map}
use Rattle.field.specs.Polynomial.{combined}
use Rattle.field.specs.laws.Extension.{of_laws}
use Rattle.lookup_model.specs.LookupDegree.{expression_degree, greatest}
use Rattle.lookup_model.specs.Sent.{value}
use Rattle.lookup_model.proofs.DegreeBounds.{greatest_more}
use Rattle.lookup_model.proofs.HornerRule.{combined_more}
use Rattle.lookup_model.proofs.RecordLaws.{Fits-at}
use Rattle.lookup_constraints.proofs.row.combined_tuple.Goals as goal

pub loop-element-init : goal.loop-element-init
loop-element-init g c = record {
  means = λ w stands. c.constant-sum.ensures.means (g.AB.ExtensionBuilder.seen_ext w) ∙ c.ZERO.ensures ∙ g.met.AB.EF.PrimeCharacteristicRing.zero_is;
  within = λ t. omega (arith, c.constant-sum.ensures.degree t);
}

pub loop-element-preserved : goal.loop-element-preserved
loop-element-preserved g c =
    let so_far = c.loop-element.invariant in
    let beta_is = c.requires.row.beta in record {
      means = λ w stands.
          let E = of_laws g.met.AB.EF.ExtensionField.lawful_fields in
          let S = E.ring in
          let look = value E.base w.base in
          let seen = g.AB.ExtensionBuilder.seen_ext w in
          let of = λ (x : g.row.AB-ExprEF.Denot). g.AB.ExprEF.Expression.value x seen in
          let beta = of c.args.row.now.beta.now in
          let es = c.args.tuple.now in
          let i = c.loop-element.element-index in
          let at_beta = λ (n : ℕ). ap (combined S (map E.embed (map look (take n es)))) (beta_is.means w stands) in
          let in_field = λ (n : ℕ). ap (λ t. combined S t beta) (map-map E.embed look (take n es)) in
          combined_more S (λ e. E.embed (look e)) es i c.element-item.result beta (of c.loop-element.sum) (of c.in_ok-sum.sum) c.loop-element-test.true c.element-item.is (so_far.means w stands ∙ sym (at_beta i) ∙ in_field i)
          (c.in_ok-sum.ensures.means seen ∙ (λ k. S.add (c.in_ok-lift_expression.ensures.means w stands k) ((c.in_ok-raised.ensures.means seen ∙ ap (λ b. S.mul b (of c.loop-element.sum)) (c.in_ok-copy.ensures.means seen)) k)))
          ∙ sym (in_field (i + 1))
          ∙ at_beta (i + 1);
      within = λ t.
          let degree = λ (e : _). g.AB.ExprEF.Expression.degree e t in
          let before = greatest (map (expression_degree t) (take c.loop-element.element-index c.args.tuple.now)) in
          let raised : degree c.in_ok-raised.raised ≤ before = omega (arith, c.in_ok-raised.ensures.degree t, c.in_ok-copy.ensures.degree t, beta_is.within t, so_far.within t) in
          greatest_more (expression_degree t) c.args.tuple.now c.loop-element.element-index c.element-item.result (degree c.in_ok-sum.sum) c.loop-element-test.true c.element-item.is (omega (arith, c.in_ok-sum.ensures.degree t, c.in_ok-lift_expression.ensures.within t, raised));
    }

pub returns : goal.returns
returns g c = rw (take_all c.loop-element.element-index c.args.tuple.now (omega arith)) at c.loop-element.invariant

pub lift_expression-requires-clause-fits : goal.lift_expression-requires-clause-fits
lift_expression-requires-clause-fits g c = Fits-at (g.AB.AirBuilder.layout c.args.row.now.builder.now) c.args.tuple.now c.loop-element.element-index _ c.requires.fits c.loop-element-test.true c.element-item.is
