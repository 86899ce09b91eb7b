use Rattle.lookup_generation_tests.proofs.PlainProgramLaws.{net-same, net-other}
use Rattle.lookup_generation_tests.proofs.plain.net_of.Goals.{then-is_same, else-is_same}
use Rattle.std.proofs.Common.{sym, ◌∙◌}
use Rattle.lookup_generation_tests.proofs.plain.net_of.Goals as goal

pub loop-message-preserved : goal.loop-message-preserved
loop-message-preserved g c =
    let laws = g.F.PrimeCharacteristicRing.lawful in
    let eq = g.F.PartialEq.eq in
    let lt = c.loop-message-test.true in
    elim c.if-is_same.branch [
      | then-is_same w ↦ net-same laws eq c.args.messages.now c.loop-message.message-index c.message-item.result _ lt c.message-item.is c.loop-message.sum c.if-is_same.sum (sym c.is_same.ensures ∙ w.if-is_same.true) c.loop-message.invariant (w.sum-is ∙ g.met.F.PrimeCharacteristicRing.add_is _ _ _ w.add-sum.ensures)
      | else-is_same w ↦ w.sum-is ∙ net-other laws eq c.args.messages.now c.loop-message.message-index c.message-item.result _ lt c.message-item.is c.loop-message.sum (sym c.is_same.ensures ∙ w.if-is_same.false) c.loop-message.invariant
    ]
