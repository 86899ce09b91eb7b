use Rattle.std.proofs.Common.{sym, ap, ap₂, ◌∙◌}
use Rattle.field_monty.specs.Quartic.{Quartic, norm_high, norm_low, quartic_cofactor}
use Rattle.field.specs.Residue.{Residue, residue_of}
use Rattle.field.specs.ResidueRing.{residue_ring}
use Rattle.field.specs.Ring.{Ring, sub_in}
use Rattle.field_monty.proofs.QuarticProduct.{quartic_cofactor_by}
use Rattle.field_monty.proofs.monty_quartic.MontyQuartic.cofactor_times.Goals as goal

pub returns : goal.returns
returns g c =
    let R : Ring (Residue g.row.P) = residue_ring g.row.P g.K.MontyParameters.positive in
    let w : Residue g.row.P = residue_of g.row.P g.K.MontyParameters.positive g.K.QuarticParameters.W in
    let a : Quartic (Residue g.row.P) = record { c0 = c.self.inside.c0; c1 = c.self.inside.c1; c2 = c.self.inside.c2; c3 = c.self.inside.c3 } in
    let times = R.mul c.args.d in
    let minus = sub_in R in
    quartic_cofactor_by R w a c.args.d c.norm_parts.result.0 c.norm_parts.result.1
    (c.norm_parts.ensures.low ∙ ap (norm_low R w) (sym c.self.view_is)) (c.norm_parts.ensures.high ∙ ap (norm_high R w) (sym c.self.view_is))
    (record { c0 = c.mul-3.result; c1 = c.mul-6.result; c2 = c.mul-9.result; c3 = c.mul-12.result })
    (c.mul-3.ensures ∙ ap times (c.sub.ensures ∙ ap₂ minus c.mul.ensures (c.times_w.ensures ∙ ap (R.mul w) c.mul-2.ensures)))
    (c.mul-6.ensures ∙ ap times (c.sub-2.ensures ∙ ap₂ minus (c.times_w-2.ensures ∙ ap (R.mul w) c.mul-4.ensures) c.mul-5.ensures))
    (c.mul-9.ensures ∙ ap times (c.sub-3.ensures ∙ ap₂ minus c.mul-7.ensures c.mul-8.ensures))
    (c.mul-12.ensures ∙ ap times (c.sub-4.ensures ∙ ap₂ minus c.mul-10.ensures c.mul-11.ensures))
    ∙ ap (quartic_cofactor R w c.args.d) c.self.view_is
