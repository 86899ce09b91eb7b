use Rattle.std.proofs.Common.{ap₂, ◌∙◌}
use Rattle.field.specs.Residue.{Residue}
use Rattle.field.specs.Ring.{sub_in}
use Rattle.field_monty.specs.internal.Four.{Four}
use Rattle.field_monty.specs.internal.Lanes.{lanes_ring}
use Rattle.field_monty.proofs.LaneSums.{lanes_subtracted}
use Rattle.field_monty.proofs.lanes.LanesSub.sub.Goals as goal

pub difference-requires-clause-small : goal.difference-requires-clause-small
difference-requires-clause-small g c = g.K.MontyParameters.right.small

pub returns : goal.returns
returns g c =
    c.from_vector.ensures
    ∙ lanes_subtracted g.K.MontyParameters.positive g.K.MontyParameters.right c.vector.result c.vector-2.result c.difference.result c.vector-2.ensures.stored c.difference.ensures
    ∙ ap₂ (λ (x y : Four (Residue g.row.P)). sub_in (lanes_ring g.row.P g.K.MontyParameters.positive) x y) c.vector.ensures.value c.vector-2.ensures.value
