use Rattle.std.proofs.Common.{ap, ◌∙◌}
use Rattle.field_monty.specs.Quartic.{Quartic, quartic_embed}
use Rattle.field.specs.Residue.{Residue}
use Rattle.field.specs.laws.ResidueRing.{residue_ring_lawful}
use Rattle.field_monty.proofs.QuarticProduct.{quartic_scaled}
use Rattle.field_monty.specs.Quartic.{quartic_ring}
use Rattle.field.specs.Residue.{residue_of}
use Rattle.field.specs.ResidueRing.{residue_ring}
use Rattle.field_monty.proofs.monty_extension.MontyQuarticExtensionDomainMontyField31.scaled.Goals as goal

pub returns : goal.returns
returns g c =
    let a : Quartic (Residue g.row.P) = record { c0 = c.self.inside.c0; c1 = c.self.inside.c1; c2 = c.self.inside.c2; c3 = c.self.inside.c3 } in
    quartic_scaled (residue_ring_lawful g.row.P g.K.MontyParameters.positive) (residue_of g.row.P g.K.MontyParameters.positive g.K.QuarticParameters.W) a c.args.by
    (record { c0 = c.mul.result; c1 = c.mul-2.result; c2 = c.mul-3.result; c3 = c.mul-4.result })
    c.mul.ensures c.mul-2.ensures c.mul-3.ensures c.mul-4.ensures
    ∙ ap (λ (x : Quartic (Residue g.row.P)). (quartic_ring (residue_ring g.row.P g.K.MontyParameters.positive) (residue_of g.row.P g.K.MontyParameters.positive g.K.QuarticParameters.W)).mul x (quartic_embed (residue_ring g.row.P g.K.MontyParameters.positive) c.args.by)) c.self.view_is
