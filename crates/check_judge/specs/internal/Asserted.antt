-- The lookups of AIRs with their constraints, as the program holds them.
use Rattle.std.specs.Prelude.{map}
use Rattle.lookup.specs.Lookups.{lookups_of}
use Rattle.check_judge.specs.Enforced.{Asserted}
use Rattle.check_judge.specs.declared.enforced.AssertedAir.{AssertedAir}

-- the lookups of an AIR with its constraints
abbrev pub asserted_air_of : {F : Type 0} → AssertedAir F → Asserted F
asserted_air_of a = record { lookups = lookups_of a.lookups.now; constraints = a.constraints.items; counts = map (λ c. c.items) a.counts.items; height = a.height }
