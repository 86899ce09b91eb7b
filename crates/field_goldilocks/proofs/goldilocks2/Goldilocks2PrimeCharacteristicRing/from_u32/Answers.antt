use Rattle.std.proofs.Common.{sym, ap, ◌∙◌}
use Rattle.field.specs.laws.ResidueRing.{of_nat_is}
use Rattle.field.specs.laws.RingFacts.{embed-of_nat}
use Rattle.field_goldilocks.specs.Goldilocks.{goldilocks_positive, goldilocks_ring}
use Rattle.field_goldilocks.specs.Quadratic.{quadratic_embed}
use Rattle.field_goldilocks.specs.laws.Goldilocks2.{goldilocks2_embeds, goldilocks2_lawful}
use Rattle.field_goldilocks.proofs.goldilocks2.Goldilocks2PrimeCharacteristicRing.from_u32.Goals as goal

pub returns : goal.returns
returns c =
    c.embed.ensures
    ∙ (ap (quadratic_embed goldilocks_ring) (c.new.ensures ∙ sym (of_nat_is 18446744069414584321 goldilocks_positive c.args.n))
    ∙ embed-of_nat goldilocks2_lawful goldilocks2_embeds c.args.n)
