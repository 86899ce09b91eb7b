use Rattle.std.proofs.Common.{◌≡◌, sym, ap, ◌∙◌}
use Rattle.field_monty.specs.Montgomery.{from_stored}
use Rattle.field.specs.Residue.{Residue}
use Rattle.field_monty.specs.internal.Four.{Four, same_four}
use Rattle.field_monty.specs.internal.Lanes.{lanes_ring, lanes_w}
use Rattle.field_monty.proofs.LaneSums.{three_times}
use Rattle.field_monty.proofs.lanes.Lanes.times_w.Goals as goal

pub returns-then-W-eq3 : goal.returns-then-W-eq3
returns-then-W-eq3 g c =
    let positive = g.K.MontyParameters.positive in
    let three : 3 ≡ g.K.QuarticParameters.W = sym c.if-W-eq3.true ∙ c.W.ensures in
    three_times positive g.K.MontyParameters.right c.args.self c.add.result c.add-then-W-eq3.result c.add.ensures c.add-then-W-eq3.ensures
    ∙ ap (λ n. (lanes_ring g.row.P positive).mul (lanes_w g.row.P positive n) c.args.self) three

pub returns-else-W-eq11 : goal.returns-else-W-eq11
returns-else-W-eq11 g c =
    let p = g.row.P in
    let positive = g.K.MontyParameters.positive in
    let stored = from_stored p g.K.MontyParameters.radix_inverse positive in
    c.mul.ensures
    ∙ ap (λ (x : Four (Residue p)). (lanes_ring p positive).mul x c.args.self)
    (c.from_vector.ensures ∙ ap same_four (ap stored c.STORED_W.ensures ∙ g.met.K.QuarticParameters.stored_w_is))
