use Rattle.std.proofs.Common.{ap₂, subst, sym, ◌*◌, ◌<◌, ◌∙◌, arith}
use Rattle.std.specs.Simd.Lanes.{Each1}
use Rattle.field.specs.Residue.{Residue}
use Rattle.field_monty.specs.internal.Four.{Four}
use Rattle.field_monty.specs.internal.Lanes.{lanes_ring}
use Rattle.field_monty.proofs.LaneProducts.{each_below}
use Rattle.field_monty.proofs.LaneSums.{lanes_added, sums_below}
use Rattle.field_monty.proofs.lanes.LanesAdd.add.Goals as goal

pub sums-requires-clause-a : goal.sums-requires-clause-a
sums-requires-clause-a g c = each_below g.row.P 2147483648 (omega (arith, g.K.MontyParameters.right.small)) c.vector.result c.vector.ensures.stored.below

pub sums-requires-clause-b : goal.sums-requires-clause-b
sums-requires-clause-b g c = each_below g.row.P 2147483648 (omega (arith, g.K.MontyParameters.right.small)) c.vector-2.result c.vector-2.ensures.stored.below

pub reduce_once-requires-clause-small : goal.reduce_once-requires-clause-small
reduce_once-requires-clause-small g c = g.K.MontyParameters.right.small

pub reduce_once-requires-clause-below : goal.reduce_once-requires-clause-below
reduce_once-requires-clause-below g c =
    subst (Each1 (λ n. n < 2 * g.row.P)) (sym c.sums.ensures)
    (sums_below g.K.MontyParameters.positive g.K.MontyParameters.right c.vector.result c.vector-2.result c.vector.ensures.stored c.vector-2.ensures.stored)

pub returns : goal.returns
returns g c =
    c.from_vector.ensures
    ∙ lanes_added g.K.MontyParameters.positive g.K.MontyParameters.right c.vector.result c.vector-2.result c.sums.result c.reduce_once.result c.sums.ensures c.reduce_once.ensures
    ∙ ap₂ (λ (x y : Four (Residue g.row.P)). (lanes_ring g.row.P g.K.MontyParameters.positive).add x y) c.vector.ensures.value c.vector-2.ensures.value
