use Rattle.std.proofs.Common.{◌≡◌, ◌++◌, List, map, All}
use Rattle.std.specs.List.{AllZip}
use Rattle.std.specs.Vec.Iter.{into_iter_items}
use Rattle.air_expressions.specs.declared.base_expression.SymbolicExpression.{SymbolicExpression}
use Rattle.lookup_model.specs.Outline.{Outline, fields_of}
use Rattle.lookup_model.specs.Records.{HasEqualLengths}
use Rattle.lookup.specs.Buses.{bus_groups}
use Rattle.lookup.specs.Packing.{additive_lookups, passing}
use Rattle.lookup.specs.internal.Fillings.{IsFilled}
use Rattle.lookup.proofs.PackLaws.{AreColumnsAdded}
use Rattle.lookup.proofs.packing.greedy.pack_by.Given as goal

abbrev pub invariant-loop-bus : goal.invariant-loop-bus
invariant-loop-bus g l = record {
  lengths : All HasEqualLengths l.columns.items;
  earlier : List (List (Outline (SymbolicExpression g.row.F.Denot)));
  later : List (List (Outline (SymbolicExpression g.row.F.Denot)));
  split : earlier ++ later ≡ map (λ g. g.1) (bus_groups (additive_lookups (map fields_of l.fn.lookups.items)));
  left : AllZip (IsFilled (g.T.TrialDegrees.keeps l.fn.degrees) (g.T.TrialDegrees.answers l.fn.degrees) l.fn.max_degree) later (into_iter_items l.bus-iterator);
  added : AreColumnsAdded (g.T.TrialDegrees.answers l.fn.degrees) l.fn.max_degree earlier (passing (map fields_of l.fn.lookups.items)) (map fields_of l.columns.items);
}
