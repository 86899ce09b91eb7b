use Rattle.std.proofs.Common.{ap, ap₂, ◌∙◌}
use Rattle.field_monty.specs.Quartic.{Quartic, quartic_embed}
use Rattle.field.specs.Residue.{Residue}
use Rattle.field.specs.laws.ResidueRing.{residue_ring_lawful}
use Rattle.field.specs.Ring.{sub_in}
use Rattle.field_monty.proofs.QuarticProduct.{quartic_minus_scaled}
use Rattle.field_monty.specs.Quartic.{quartic_ring}
use Rattle.field.specs.Residue.{residue_of}
use Rattle.field.specs.ResidueRing.{residue_ring}
use Rattle.field_monty.proofs.monty_extension.MontyQuarticExtensionDomainMontyField31.minus_scaled.Goals as goal

pub returns : goal.returns
returns g c =
    let b : Quartic (Residue g.row.P) = record { c0 = c.self.inside.c0; c1 = c.self.inside.c1; c2 = c.self.inside.c2; c3 = c.self.inside.c3 } in
    let a : Quartic (Residue g.row.P) = record { c0 = c.power.inside.c0; c1 = c.power.inside.c1; c2 = c.power.inside.c2; c3 = c.power.inside.c3 } in
    quartic_minus_scaled (residue_ring_lawful g.row.P g.K.MontyParameters.positive) (residue_of g.row.P g.K.MontyParameters.positive g.K.QuarticParameters.W) a c.args.by b
    (record { c0 = c.sub.result; c1 = c.sub-2.result; c2 = c.sub-3.result; c3 = c.sub-4.result })
    (c.sub.ensures ∙ ap (sub_in (residue_ring g.row.P g.K.MontyParameters.positive) b.c0) c.mul.ensures) (c.sub-2.ensures ∙ ap (sub_in (residue_ring g.row.P g.K.MontyParameters.positive) b.c1) c.mul-2.ensures)
    (c.sub-3.ensures ∙ ap (sub_in (residue_ring g.row.P g.K.MontyParameters.positive) b.c2) c.mul-3.ensures) (c.sub-4.ensures ∙ ap (sub_in (residue_ring g.row.P g.K.MontyParameters.positive) b.c3) c.mul-4.ensures)
    ∙ ap₂ (λ (x y : Quartic (Residue g.row.P)). sub_in (quartic_ring (residue_ring g.row.P g.K.MontyParameters.positive) (residue_of g.row.P g.K.MontyParameters.positive g.K.QuarticParameters.W)) x ((quartic_ring (residue_ring g.row.P g.K.MontyParameters.positive) (residue_of g.row.P g.K.MontyParameters.positive g.K.QuarticParameters.W)).mul y (quartic_embed (residue_ring g.row.P g.K.MontyParameters.positive) c.args.by))) c.self.view_is c.power.view_is
