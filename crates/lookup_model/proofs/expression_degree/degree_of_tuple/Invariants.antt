use Rattle.std.proofs.Common.{◌≡◌, map, take}
use Rattle.lookup_model.specs.LookupDegree.{expression_degree, greatest}
use Rattle.lookup_model.proofs.expression_degree.degree_of_tuple.Given as goal

abbrev pub invariant-loop-element : goal.invariant-loop-element
invariant-loop-element g l = l.degree ≡ greatest (take l.element-index (map (expression_degree l.transition) l.tuple))
