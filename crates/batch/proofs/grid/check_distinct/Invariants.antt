use Rattle.std.proofs.Common.{◌≡◌, take}
use Rattle.field.specs.Distinct.{IsDistinct}
use Rattle.indexmap.specs.IndexSet.{keys}
use Rattle.batch.proofs.grid.check_distinct.Given as goal

abbrev pub invariant-loop-index : goal.invariant-loop-index
invariant-loop-index g l = record {
  seen : keys l.seen ≡ take l.index l.list;
  distinct : IsDistinct (take l.index l.list);
}
