use Rattle.std.proofs.Common.{◌∙◌}
use Rattle.lookup_model.proofs.HornerRule.{combined_more}
use Rattle.lookup_generation_tests.proofs.plain.combined_of.Goals as goal

pub loop-element-preserved : goal.loop-element-preserved
loop-element-preserved g c =
    let S = g.EF.PrimeCharacteristicRing.ring in
    let met = g.met.EF.PrimeCharacteristicRing in
    combined_more S g.EF.ExtensionDomain.embed c.args.tuple.now c.loop-element.element-index c.element-item.result c.args.beta c.loop-element.sum c.add-sum.result c.loop-element-test.true c.element-item.is c.loop-element.invariant
    (met.add_is _ _ _ c.add-sum.ensures ∙ (λ k. S.add (c.embed.ensures k) (met.mul_is _ _ _ c.mul.ensures k)))
