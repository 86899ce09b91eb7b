use Rattle.std.proofs.Common.{take}
use Rattle.std.specs.List.{flat_map, zip}
use Rattle.lookup.specs.Lookups.{lookups_of}
use Rattle.batch.specs.Lists.{lists_of}
use Rattle.batch.specs.internal.Seen.{AreSeen}
use Rattle.batch.proofs.assigned.are_assigned.Given as goal

abbrev pub invariant-loop-air : goal.invariant-loop-air
invariant-loop-air g l = AreSeen l.num_ids (flat_map (λ p. zip p.0 (lookups_of p.1)) (take l.air (zip (lists_of l.ids) l.airs))) l.seen
