use Rattle.std.proofs.Common.{sym}
use Rattle.lookup_model.specs.Fault.{IsLawfulSelection}
use Rattle.lookup_model.specs.Sent.{values}
use Rattle.lookup_enforced.proofs.RowLaws.{holds_more}
use Rattle.lookup_enforced.proofs.flags.missing_over.Goals as goal

pub loop-row-preserved : goal.loop-row-preserved
loop-row-preserved g c =
    let R = g.F.PrimeCharacteristicRing.ring in
    holds_more {R = R} (λ w. IsLawfulSelection R g.F.PartialEq.eq (values R w c.args.flags.now)) c.args.rows.now c.loop-row.row-index c.row-item.result c.loop-row-test.true c.row-item.is c.loop-row.invariant
    (c.in_ok-missing.ensures (sym c.if-is_some.ensures))
