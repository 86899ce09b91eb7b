use Rattle.std.proofs.Common.{◌≡◌, ◌≤◌, ◌-◌, length, drop}
use Rattle.lookup_debug.specs.Mismatch.{text_cmp}
use Rattle.lookup_debug.proofs.first.text_order.Given as goal

abbrev pub invariant-loop-index : goal.invariant-loop-index
invariant-loop-index g l = record {
  rest : text_cmp g.F.Field.text (drop l.index l.a) (drop l.index l.b) ≡ text_cmp g.F.Field.text l.a l.b;
  first : l.index ≤ length l.a;
  second : l.index ≤ length l.b;
}

abbrev pub decreases-loop-index : goal.decreases-loop-index
decreases-loop-index g l = length l.a - l.index
