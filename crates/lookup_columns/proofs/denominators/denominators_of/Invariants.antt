use Rattle.std.proofs.Common.{◌≡◌, ◌<◌, ◌≤◌, List, drop, length}
use Rattle.std.specs.List.{AllZip}
use Rattle.air_expressions.specs.declared.base_expression.SymbolicExpression.{SymbolicExpression}
use Rattle.field.specs.Ring.{power}
use Rattle.lookup_columns.specs.Columns.{tuple_denominators}
use Rattle.lookup_columns.specs.Steps.{AreStepsOf}
use Rattle.air.specs.Traces.{traces_of, window_of}
use Rattle.lookup_columns.proofs.denominators.denominators_of.Given as goal

abbrev pub invariant-loop-left : goal.invariant-loop-left
invariant-loop-left g l =
    let S = g.EF.PrimeCharacteristicRing.ring in
    (l.left ≤ length l.tuple)
    × (0 < l.left → l.power ≡ power S l.beta (length (drop l.left l.tuple)))
    × ((es : List (SymbolicExpression _)) → AllZip AreStepsOf l.tuple es
    → l.denominators.items ≡ tuple_denominators g.F.PrimeCharacteristicRing.ring S g.EF.ExtensionDomain.embed (window_of (traces_of l.inputs.traces.now)) l.fn.alpha l.beta l.rows (drop l.left es))

abbrev pub decreases-loop-left : goal.decreases-loop-left
decreases-loop-left g l = l.left
