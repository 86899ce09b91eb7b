use Rattle.std.proofs.Common.{◌<◌, refl, ap, ◌∙◌, arith}
use Rattle.field_monty.specs.Montgomery.{from_stored}
use Rattle.field_monty.specs.internal.Four.{same_four}
use Rattle.field_monty.proofs.Montgomery.{one_stored}
use Rattle.field_monty.proofs.lanes.Lanes.one.Goals as goal

pub from_vector-requires : goal.from_vector-requires
from_vector-requires g c =
    let low : c.ONE.result < g.row.P = rw c.ONE.ensures (omega (arith, g.K.MontyParameters.right.one_below)) in
    (omega arith, record { long = refl; below = (low, (low, (low, (low, tt)))) })

pub returns : goal.returns
returns g c =
    c.from_vector.ensures
    ∙ ap (λ n. same_four (from_stored g.row.P g.K.MontyParameters.radix_inverse g.K.MontyParameters.positive n)) c.ONE.ensures
    ∙ ap same_four (one_stored g.K.MontyParameters.positive g.K.MontyParameters.right)
