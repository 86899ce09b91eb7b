use Rattle.std.proofs.Common.{◌↔◌, take}
use Rattle.air_expressions.specs.declared.layout.AirLayout.{AirLayout}
use Rattle.lookup_model.specs.Records.{AllFit}
use Rattle.batch.specs.Reaches.{StaysWithin}
use Rattle.batch.proofs.reach.Reach.with_all.Given as goal

abbrev pub invariant-loop-expression : goal.invariant-loop-expression
invariant-loop-expression g l =
    (layout : AirLayout) → StaysWithin l.reach layout ↔ (StaysWithin l.fn.self layout × AllFit layout (take l.expression-index l.expressions))
