use Rattle.std.proofs.Common.{◌≡◌, ◌++◌, map, take}
use Rattle.std.specs.List.{zip}
use Rattle.checker_batches.specs.internal.Identified.{identified_of}
use Rattle.checker_batches.proofs.ids.push_identified.Given as goal

abbrev pub invariant-loop-index : goal.invariant-loop-index
invariant-loop-index g l =
    map identified_of l.all.items ≡ map identified_of l.initial.all.items ++ take l.index (zip l.instance.ids.now l.instance.lookups.now)
