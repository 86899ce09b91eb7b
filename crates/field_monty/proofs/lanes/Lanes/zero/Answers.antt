use Rattle.std.proofs.Common.{[], ◌∷◌, refl, ◌∙◌, arith}
use Rattle.field_monty.proofs.LaneSums.{zero_lanes}
use Rattle.field_monty.proofs.lanes.Lanes.zero.Goals as goal

pub from_vector-requires : goal.from_vector-requires
from_vector-requires g c =
    let low = g.K.MontyParameters.positive in
    (omega arith, record { long = refl; below = (low, (low, (low, (low, tt)))) })

pub returns : goal.returns
returns g c =
    c.from_vector.ensures ∙ zero_lanes g.K.MontyParameters.positive g.K.MontyParameters.right (0 ∷ 0 ∷ 0 ∷ 0 ∷ []) refl refl refl refl
