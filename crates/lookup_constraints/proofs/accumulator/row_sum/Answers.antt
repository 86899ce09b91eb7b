use Rattle.std.proofs.Common.{ap, ◌∙◌, arith}
use Rattle.field.specs.laws.Extension.{of_laws}
use Rattle.lookup_constraints.proofs.accumulator.row_sum.Goals as goal
use Rattle.lookup_model.specs.Constraints.{fraction_at}
use Rattle.lookup_model.specs.declared.types.Lookup.{Lookup}
use Rattle.lookup_model.proofs.SumLaws.{sum_mapped_next}

pub loop-lookup-preserved : goal.loop-lookup-preserved
loop-lookup-preserved g c = record {
  means = λ w stands.
      let E = of_laws g.met.AB.EF.ExtensionField.lawful_fields in
      let seen = g.AB.ExtensionBuilder.seen_ext w in
      let f = λ (l : Lookup _). fraction_at E l.column w in
      sum_mapped_next g.AB.EF.PrimeCharacteristicRing.lawful f c.args.lookups.now c.loop-lookup.lookup-index c.lookup-item.result _ _ c.loop-lookup-test.true c.lookup-item.is (c.loop-lookup.invariant.means w stands)
      (c.in_ok-sum.ensures.means seen ∙ ap (E.ring.add (g.AB.ExprEF.Expression.value c.loop-lookup.sum seen)) (c.fraction_cell-fraction.ensures.means w stands));
  within = λ t. omega (arith, c.in_ok-sum.ensures.degree t, c.loop-lookup.invariant.within t, c.fraction_cell-fraction.ensures.within t);
}
