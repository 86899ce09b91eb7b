use Rattle.std.proofs.Common.{◌↔◌, All, take}
use Rattle.air_expressions.specs.declared.layout.AirLayout.{AirLayout}
use Rattle.lookup_model.specs.Records.{AllFit}
use Rattle.batch.specs.Reaches.{StaysWithin}
use Rattle.batch.proofs.reach.Reach.with_tuples.Given as goal

abbrev pub invariant-loop-tuple : goal.invariant-loop-tuple
invariant-loop-tuple g l =
    (layout : AirLayout) → StaysWithin l.reach layout ↔ (StaysWithin l.fn.self layout × All (λ tuple. AllFit layout tuple.items) (take l.tuple-index l.tuples))
