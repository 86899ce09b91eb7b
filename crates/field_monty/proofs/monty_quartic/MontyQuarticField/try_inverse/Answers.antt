use Rattle.std.proofs.Common.{sym, ap, ◌∙◌}
use Rattle.field_monty.specs.Quartic.{quartic_ring}
use Rattle.field.specs.Residue.{residue_of}
use Rattle.field.specs.ResidueRing.{residue_ring}
use Rattle.field.specs.laws.PrimeResidues.{residue_domain}
use Rattle.field_monty.specs.laws.QuarticField.{norm_zero, quartic_inverse_is}
use Rattle.field.specs.laws.ResidueRing.{residue_ring_lawful}
use Rattle.field_monty.proofs.monty_quartic.MontyQuarticField.try_inverse.Goals as goal

pub returns-in-None-clause-inverts : goal.returns-in-None-clause-inverts
returns-in-None-clause-inverts g c = norm_zero (residue_ring_lawful g.row.P g.K.MontyParameters.positive) (residue_domain g.row.P g.K.MontyParameters.positive g.K.MontyParameters.right.prime) (residue_of g.row.P g.K.MontyParameters.positive g.K.QuarticParameters.W) (residue_of g.row.P g.K.MontyParameters.positive g.K.QuarticParameters.i) g.met.K.QuarticParameters.roots c.args.self (sym c.norm.ensures ∙ c.in-None.ensures.inverts)

pub returns-in-None-clause-value : goal.returns-in-None-clause-value
returns-in-None-clause-value g c = norm_zero (residue_ring_lawful g.row.P g.K.MontyParameters.positive) (residue_domain g.row.P g.K.MontyParameters.positive g.K.MontyParameters.right.prime) (residue_of g.row.P g.K.MontyParameters.positive g.K.QuarticParameters.W) (residue_of g.row.P g.K.MontyParameters.positive g.K.QuarticParameters.i) g.met.K.QuarticParameters.roots c.args.self (sym c.norm.ensures ∙ c.in-None.ensures.inverts)

pub returns-in-Some-clause-inverts : goal.returns-in-Some-clause-inverts
returns-in-Some-clause-inverts g c =
    let d = c.in-Some.d in
    let inverse = ap (λ n. (residue_ring g.row.P g.K.MontyParameters.positive).mul n d) (sym c.norm.ensures) ∙ c.in-Some.ensures.inverts in
    ap ((quartic_ring (residue_ring g.row.P g.K.MontyParameters.positive) (residue_of g.row.P g.K.MontyParameters.positive g.K.QuarticParameters.W)).mul c.args.self) c.cofactor_times.ensures ∙ quartic_inverse_is (residue_ring_lawful g.row.P g.K.MontyParameters.positive) (residue_of g.row.P g.K.MontyParameters.positive g.K.QuarticParameters.W) (λ _. d) c.args.self inverse
