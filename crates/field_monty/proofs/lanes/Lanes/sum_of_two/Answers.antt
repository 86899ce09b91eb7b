use Rattle.field_monty.specs.internal.Lanes.{lanes_ring}
use Rattle.field_monty.proofs.LaneSums.{lanes_reduced_to, lanes_summed}
use Rattle.field_monty.proofs.lanes.Lanes.sum_of_two.Goals as goal

pub returns : goal.returns
returns g c =
    let times = (lanes_ring g.row.P g.K.MontyParameters.positive).mul in
    let plus = (lanes_ring g.row.P g.K.MontyParameters.positive).add in
    let summed = lanes_summed g.K.MontyParameters.positive g.K.MontyParameters.right in
    let a = c.args in
    let p = times a.x.0 a.x.1 in
    let q = times a.y.0 a.y.1 in
    lanes_reduced_to g.K.MontyParameters.positive g.K.MontyParameters.right c.plus.result (plus p q) c.reduce.result
    (summed c.products.result c.products-2.result c.plus.result p q c.plus.ensures c.products.ensures.value c.products-2.ensures.value)
    c.reduce.ensures
