use Rattle.std.proofs.Common.{ap, ◌∙◌}
use Rattle.lookup_debug.specs.internal.Arena.{amounts_in}
use Rattle.lookup_debug.specs.internal.Nets.{amount_nets}
use Rattle.lookup_debug.proofs.AmountNets.{nets_once}
use Rattle.lookup_debug.proofs.arena.merge_at_limit.Goals as goal

pub returns : goal.returns
returns g c = (
  c.in_ok-merged.ensures.0,
  ap (amount_nets g.F.PrimeCharacteristicRing.ring g.F.PartialEq.eq) c.in_ok-merged.ensures.1
      ∙ nets_once g.F.PrimeCharacteristicRing.lawful g.F.PartialEq.eq g.met.F.PrimeCharacteristicRing.eq_is (amounts_in c.args.contributions.now),
)
