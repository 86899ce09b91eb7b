use Rattle.std.proofs.Common.{◌≡◌, take}
use Rattle.lookup_model.specs.Terminals.{terminal_sum}
use Rattle.lookup.proofs.logup.sum_of_terminals.Given as goal

abbrev pub invariant-loop-terminal : goal.invariant-loop-terminal
invariant-loop-terminal g l = l.sum ≡ terminal_sum g.EF.PrimeCharacteristicRing.ring (take l.terminal-index l.terminals)
