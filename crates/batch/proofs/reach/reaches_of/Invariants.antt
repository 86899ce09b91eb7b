use Rattle.std.proofs.Common.{take}
use Rattle.std.specs.List.{AllZip}
use Rattle.lookup.specs.Lookups.{lookups_of}
use Rattle.batch.specs.Reaches.{IsReachOf}
use Rattle.batch.proofs.reach.reaches_of.Given as goal

abbrev pub invariant-loop-air : goal.invariant-loop-air
invariant-loop-air g l = AllZip (λ reach air. IsReachOf reach (lookups_of air)) l.reaches.items (take l.air-index l.airs)
