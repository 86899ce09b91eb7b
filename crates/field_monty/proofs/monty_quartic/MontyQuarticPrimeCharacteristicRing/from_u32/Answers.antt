use Rattle.std.proofs.Common.{sym, ap, ◌∙◌}
use Rattle.field_monty.specs.Quartic.{quartic_embed}
use Rattle.field.specs.laws.ResidueRing.{of_nat_is}
use Rattle.field.specs.laws.RingFacts.{embed-of_nat}
use Rattle.field.specs.Residue.{residue_of}
use Rattle.field.specs.ResidueRing.{residue_ring}
use Rattle.field_monty.specs.laws.QuarticField.{quartic_lawful, quartic_embeds}
use Rattle.field.specs.laws.ResidueRing.{residue_ring_lawful}
use Rattle.field_monty.proofs.monty_quartic.MontyQuarticPrimeCharacteristicRing.from_u32.Goals as goal

pub returns : goal.returns
returns g c =
    c.constant.ensures
    ∙ (ap (quartic_embed (residue_ring g.row.P g.K.MontyParameters.positive)) (c.new.ensures ∙ sym (of_nat_is g.row.P g.K.MontyParameters.positive c.args.n))
    ∙ embed-of_nat (quartic_lawful (residue_ring_lawful g.row.P g.K.MontyParameters.positive) (residue_of g.row.P g.K.MontyParameters.positive g.K.QuarticParameters.W)) (quartic_embeds (residue_ring_lawful g.row.P g.K.MontyParameters.positive) (residue_of g.row.P g.K.MontyParameters.positive g.K.QuarticParameters.W)) c.args.n)
