use Rattle.std.proofs.Common.{◌≡◌, ◌++◌, List, map, All}
use Rattle.std.specs.Vec.Iter.{into_iter_items}
use Rattle.air_expressions.specs.declared.base_expression.SymbolicExpression.{SymbolicExpression}
use Rattle.lookup_model.specs.Outline.{Outline, fields_of}
use Rattle.lookup_model.specs.Records.{HasEqualLengths}
use Rattle.lookup.specs.Packing.{additive_lookups, passing}
use Rattle.lookup.specs.internal.Fillings.{AreFilledBuses}
use Rattle.lookup.proofs.packing.greedy.fill_buses.Given as goal

abbrev pub invariant-loop-lookup : goal.invariant-loop-lookup
invariant-loop-lookup g l = record {
  left : All HasEqualLengths (into_iter_items l.lookup-iterator);
  pass : map fields_of l.columns.items ++ passing (map fields_of (into_iter_items l.lookup-iterator)) ≡ passing (map fields_of l.fn.lookups.items);
  lengths : All HasEqualLengths l.columns.items;
  seen : List (Outline (SymbolicExpression g.row.F.Denot));
  all : seen ++ additive_lookups (map fields_of (into_iter_items l.lookup-iterator)) ≡ additive_lookups (map fields_of l.fn.lookups.items);
  buses : AreFilledBuses (g.T.TrialDegrees.keeps l.fn.degrees) (g.T.TrialDegrees.answers l.fn.degrees) l.fn.max_degree seen l.buses.entries;
}
