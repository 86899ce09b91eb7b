use Rattle.std.proofs.Common.{◌≡◌, ◌++◌, All, List, take}
use Rattle.c_tables.specs.Tables.{AreTableTuples}
use Rattle.c_tables.specs.Written.{AreWritableExpressions}
use Rattle.c_tables.specs.declared.tables.Span.{Span}
use Rattle.c_tables.specs.internal.Written.{HoldsFrom, IsLonger}
use Rattle.c_tables.proofs.writer.write_tuples.Given as goal

abbrev pub invariant-loop-tuple : goal.invariant-loop-tuple
invariant-loop-tuple g l = record {
  longer : IsLonger l.initial.nodes.items l.nodes.items;
  made : List Span;
  spans_are : l.spans.items ≡ l.initial.spans.items ++ made;
  encoded : HoldsFrom l.nodes.items (λ all. AreTableTuples all made (take l.tuple-index l.tuples));
  each : All (λ tuple. AreWritableExpressions tuple.items) (take l.tuple-index l.tuples);
}
