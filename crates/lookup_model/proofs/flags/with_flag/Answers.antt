use Rattle.std.proofs.Common.{sym, ◌∙◌}
use Rattle.lookup_model.proofs.SetFlagLaws.{one_flag, zero_flag}
use Rattle.lookup_model.proofs.flags.with_flag.Goals as goal

pub returns-then-is_zero-clause-next : goal.returns-then-is_zero-clause-next
returns-then-is_zero-clause-next g c =
    let R = g.F.PrimeCharacteristicRing.ring in
    let eq = g.F.PartialEq.eq in
    λ flags at so_far. zero_flag R eq g.met.F.PrimeCharacteristicRing.eq_is g.met.F.Domain.domain flags c.args.flag c.args.set (c.is_zero.ensures.0 c.if-is_zero.true) so_far

pub returns-then-eq-clause-next : goal.returns-then-eq-clause-next
returns-then-eq-clause-next g c =
    let R = g.F.PrimeCharacteristicRing.ring in
    let eq = g.F.PartialEq.eq in
    λ flags at so_far. one_flag R eq g.met.F.PrimeCharacteristicRing.eq_is flags c.args.flag c.args.set c.with_index.result c.args.index at ((g.met.F.PrimeCharacteristicRing.eq_is c.args.flag c.ONE.result).0 (sym c.eq.ensures ∙ c.if-eq.true) ∙ c.ONE.ensures ∙ g.met.F.PrimeCharacteristicRing.one_is) c.with_index.ensures so_far
