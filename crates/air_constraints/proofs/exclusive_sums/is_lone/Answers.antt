use Rattle.std.proofs.Common.{sym, ◌∙◌, arith}
use Rattle.air_constraints.proofs.ExclusiveLaws.{lone}
use Rattle.air_constraints.proofs.exclusive_sums.is_lone.Goals as goal

pub returns-then-eq : goal.returns-then-eq
returns-then-eq g c = λ t w.
    let one = (g.met.F.PrimeCharacteristicRing.eq_is c.args.term.now.coefficient c.ONE.result).0 (sym c.eq.ensures ∙ c.if-eq.true) in
    lone g.F.PrimeCharacteristicRing.lawful w c.args.term.now c.args.cell c.index.result.now (one ∙ c.ONE.ensures ∙ g.met.F.PrimeCharacteristicRing.one_is)
    (omega (arith, c.if-len-ne1.false, c.len.ensures)) c.index.ensures (c.same_cell.ensures t w)
