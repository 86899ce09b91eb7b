use Rattle.std.proofs.Common.{◌∙◌, ap, map, sym, take}
use Rattle.field.specs.Sums.{sum_in}
use Rattle.list_laws.proofs.Images.{images_more}
use Rattle.lookup_model.proofs.SumLaws.{sum_in-push}
use Rattle.lookup_model.specs.Terminals.{terminal_value}
use Rattle.lookup.proofs.logup.sum_of_terminals.Goals as goal

pub loop-terminal-preserved : goal.loop-terminal-preserved
loop-terminal-preserved g c =
    let S = g.EF.PrimeCharacteristicRing.ring in
    let values = map (terminal_value S) (take c.loop-terminal.terminal-index c.args.terminals.now) in
    g.met.EF.PrimeCharacteristicRing.add_is _ _ _ c.add-sum.ensures
    ∙ (λ i. S.add (c.loop-terminal.invariant i) (c.value_of_terminal.ensures i)) ∙ sym (sum_in-push g.EF.PrimeCharacteristicRing.lawful values (terminal_value S c.terminal-item.result))
    ∙ ap (sum_in S) (sym (images_more (terminal_value S) c.args.terminals.now c.loop-terminal.terminal-index c.terminal-item.result c.loop-terminal-test.true c.terminal-item.is))
