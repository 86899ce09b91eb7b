use Rattle.std.proofs.Common.{◌↔◌, All, take}
use Rattle.air_expressions.specs.declared.layout.AirLayout.{AirLayout}
use Rattle.lookup_model.specs.Records.{IsWithin}
use Rattle.batch.specs.Reaches.{StaysWithin}
use Rattle.batch.proofs.reach.Reach.of_lookups.Given as goal

abbrev pub invariant-loop-lookup : goal.invariant-loop-lookup
invariant-loop-lookup g l =
    (layout : AirLayout) → StaysWithin l.reach layout ↔ All (IsWithin layout) (take l.lookup-index l.lookups)
