use Rattle.std.proofs.Common.{ap, ◌∙◌, arith}
use Rattle.field_monty.proofs.Montgomery.{neg_stored}
use Rattle.field.specs.ResidueRing.{residue_ring}
use Rattle.field_monty.proofs.monty_field.MontyField31Neg.neg.Goals as goal

pub returns : goal.returns
returns g c =
    c.from_stored.ensures
    ∙ (neg_stored g.K.MontyParameters.positive g.K.MontyParameters.right c.stored.result c.reduce_once.result (omega (arith, c.stored.ensures.below)) c.reduce_once.ensures.value
    ∙ ap (residue_ring g.row.P g.K.MontyParameters.positive).neg c.stored.ensures.value)
