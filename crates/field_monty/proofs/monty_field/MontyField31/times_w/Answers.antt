use Rattle.std.proofs.Common.{ap, ◌∙◌, arith}
use Rattle.field_monty.specs.Montgomery.{from_stored}
use Rattle.field.specs.Residue.{Residue}
use Rattle.field.specs.ResidueRing.{residue_ring}
use Rattle.field_monty.proofs.monty_field.MontyField31.times_w.Goals as goal

pub from_stored-requires : goal.from_stored-requires
from_stored-requires g c = rw c.STORED_W.ensures (omega arith, g.K.QuarticParameters.stored_w_below)

pub returns : goal.returns
returns g c =
    c.mul.ensures
    ∙ ap (λ (x : Residue g.row.P). (residue_ring g.row.P g.K.MontyParameters.positive).mul x c.args.self)
    (c.from_stored.ensures ∙ (ap (from_stored g.row.P g.K.MontyParameters.radix_inverse g.K.MontyParameters.positive) c.STORED_W.ensures ∙ g.met.K.QuarticParameters.stored_w_is))
