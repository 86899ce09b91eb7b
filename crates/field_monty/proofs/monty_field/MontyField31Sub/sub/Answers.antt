use Rattle.std.proofs.Common.{◌≤◌, ap₂, ◌∙◌, arith}
use Rattle.field.specs.Residue.{Residue}
use Rattle.field.specs.Ring.{sub_in}
use Rattle.field_monty.proofs.Montgomery.{difference_residue, sub_stored}
use Rattle.field.specs.ResidueRing.{residue_ring}
use Rattle.field_monty.proofs.monty_field.MontyField31Sub.sub.Goals as goal

pub returns : goal.returns
returns g c =
    let m = c.stored.result in
    let n = c.stored-2.result in
    let fits : n ≤ g.row.P = omega (arith, c.stored-2.ensures.below) in
    c.from_stored.ensures
    ∙ (sub_stored g.K.MontyParameters.positive g.K.MontyParameters.right m n c.difference.result fits (difference_residue g.K.MontyParameters.positive g.K.MontyParameters.right m n c.difference.result fits c.difference.ensures.borrowing c.difference.ensures.plain)
    ∙ ap₂ (λ (a b : Residue g.row.P). sub_in (residue_ring g.row.P g.K.MontyParameters.positive) a b) c.stored.ensures.value c.stored-2.ensures.value)
