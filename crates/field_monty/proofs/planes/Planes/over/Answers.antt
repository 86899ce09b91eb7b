use Rattle.std.proofs.Common.{ap, ◌∙◌}
use Rattle.field_monty.specs.internal.Lanes.{lanes_ring, lanes_w}
use Rattle.field_monty.specs.laws.Lanes.{lanes_lawful}
use Rattle.field_monty.proofs.QuarticLanes.{embedded_cofactor}
use Rattle.field_monty.proofs.planes.Planes.over.Goals as goal

pub returns-then-are_embedded : goal.returns-then-are_embedded
returns-then-are_embedded g c =
    let e = (c.are_embedded.ensures).0 c.if-are_embedded.true in
    embedded_cofactor (lanes_lawful g.row.P g.K.MontyParameters.positive) (lanes_w g.row.P g.K.MontyParameters.positive g.K.QuarticParameters.W) c.args.denominators c.args.self c.args.inverses c.mul.result c.cofactor_times.result
    e.0 e.1 e.2 (c.mul.ensures ∙ ap (λ q. (lanes_ring g.row.P g.K.MontyParameters.positive).mul q.c0 c.args.inverses) c.self.view_is) c.cofactor_times.ensures
