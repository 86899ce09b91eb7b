use Rattle.std.proofs.Common.{ap₂, ◌∙◌}
use Rattle.field.specs.Residue.{Residue}
use Rattle.field_monty.proofs.Montgomery.{add_stored}
use Rattle.field.specs.ResidueRing.{residue_ring}
use Rattle.field_monty.proofs.monty_field.MontyField31Add.add.Goals as goal

pub returns : goal.returns
returns g c =
    c.from_stored.ensures
    ∙ (add_stored g.K.MontyParameters.positive g.K.MontyParameters.right c.stored.result c.stored-2.result c.reduce_once.result c.reduce_once.ensures.value
    ∙ ap₂ (λ (a b : Residue g.row.P). (residue_ring g.row.P g.K.MontyParameters.positive).add a b) c.stored.ensures.value c.stored-2.ensures.value)
