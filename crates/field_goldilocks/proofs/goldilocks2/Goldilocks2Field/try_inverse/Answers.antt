use Rattle.std.proofs.Common.{sym, ap, ◌∙◌}
use Rattle.field_goldilocks.specs.Goldilocks.{goldilocks_ring}
use Rattle.field_goldilocks.specs.Goldilocks2.{goldilocks2_ring}
use Rattle.field_goldilocks.specs.laws.Goldilocks2.{goldilocks2_cofactor, goldilocks2_norm_zero}
use Rattle.field_goldilocks.proofs.goldilocks2.Goldilocks2Field.try_inverse.Goals as goal

pub returns-in-None-clause-inverts : goal.returns-in-None-clause-inverts
returns-in-None-clause-inverts c = goldilocks2_norm_zero c.args.self (sym c.norm.ensures ∙ c.in-None.ensures.inverts)

pub returns-in-None-clause-value : goal.returns-in-None-clause-value
returns-in-None-clause-value c = goldilocks2_norm_zero c.args.self (sym c.norm.ensures ∙ c.in-None.ensures.inverts)

pub returns-in-Some-clause-inverts : goal.returns-in-Some-clause-inverts
returns-in-Some-clause-inverts c =
    let d = c.in-Some.d in
    let inverse = ap (λ n. goldilocks_ring.mul n d) (sym c.norm.ensures) ∙ c.in-Some.ensures.inverts in
    ap (goldilocks2_ring.mul c.args.self) c.cofactor_times.ensures ∙ goldilocks2_cofactor c.args.self d inverse
