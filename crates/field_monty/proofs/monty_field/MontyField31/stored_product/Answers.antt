use Rattle.std.proofs.Common.{ap₂, ◌∙◌, arith}
use Rattle.std.proofs.lemmas.Nat.{mul-lt}
use Rattle.field.specs.Residue.{Residue}
use Rattle.field_monty.proofs.Montgomery.{product_stored}
use Rattle.field.specs.ResidueRing.{residue_ring}
use Rattle.field.specs.Residue.{residue_of}
use Rattle.field_monty.proofs.monty_field.MontyField31.stored_product.Goals as goal

pub returns-clause-value : goal.returns-clause-value
returns-clause-value g c =
    product_stored g.K.MontyParameters.positive g.K.MontyParameters.right c.stored.result c.stored-2.result
    ∙ ap₂ (λ (a b : Residue g.row.P). (residue_ring g.row.P g.K.MontyParameters.positive).mul (residue_of g.row.P g.K.MontyParameters.positive 4294967296) ((residue_ring g.row.P g.K.MontyParameters.positive).mul a b)) c.stored.ensures.value c.stored-2.ensures.value

pub returns-clause-below : goal.returns-clause-below
returns-clause-below g c =
    mul-lt c.stored.result c.stored-2.result g.row.P 2147483648 c.stored.ensures.below (omega (arith, c.stored-2.ensures.below, g.K.MontyParameters.right.small))
