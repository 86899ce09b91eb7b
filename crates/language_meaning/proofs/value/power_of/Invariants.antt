use Rattle.std.proofs.Common.{◌≡◌}
use Rattle.language_meaning.specs.Values.{meant_of, powers}
use Rattle.language_meaning.proofs.value.power_of.Given as goal

abbrev pub invariant-loop : goal.invariant-loop
invariant-loop l = meant_of l.product ≡ powers l.counter (meant_of l.base)
