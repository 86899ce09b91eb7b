use Rattle.std.proofs.Common.{take}
use Rattle.std.specs.List.{AllZip}
use Rattle.check_judge.specs.Found.{IsAirFound}
use Rattle.check_judge.specs.internal.Sizes.{sized_lookups_of}
use Rattle.check_judge.proofs.sizes.reports_of.Given as goal

abbrev pub invariant-loop-index : goal.invariant-loop-index
invariant-loop-index g l = AllZip (λ air found. IsAirFound g.F.PrimeCharacteristicRing.ring g.F.PartialEq.eq l.max_degree (sized_lookups_of air) found) (take l.index l.airs) l.reports.items
