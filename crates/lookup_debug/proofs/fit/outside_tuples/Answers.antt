use Rattle.std.proofs.Common.{List, arith, subst}
use Rattle.list_laws.proofs.Each.{All-held}
use Rattle.list_laws.proofs.Items.{holds_next, item_there}
use Rattle.air_expressions.specs.declared.base_expression.SymbolicExpression.{SymbolicExpression}
use Rattle.lookup_debug.specs.Fits.{IsFirstOutsideOf}
use Rattle.lookup_model.specs.Records.{AllFit}
use Rattle.lookup_debug.proofs.fit.outside_tuples.Goals as goal

pub returns-in-Some : goal.returns-in-Some
returns-in-Some g c = record {
  index = c.loop-tuple.tuple-index;
  item = c.tuple-item.result;
  is_there = item_there c.args.tuples.now c.loop-tuple.tuple-index c.tuple-item.result c.loop-tuple-test.true c.tuple-item.is;
  before = c.loop-tuple.invariant;
  fault = subst (λ (es : List (SymbolicExpression _)). IsFirstOutsideOf c.args.layout.now c.in-Some.cell es) c.deref.ensures.value c.in-Some.ensures;
}

pub loop-tuple-preserved : goal.loop-tuple-preserved
loop-tuple-preserved g c =
    holds_next (λ tuple. AllFit c.args.layout.now tuple.items) c.args.tuples.now c.loop-tuple.tuple-index c.tuple-item.result
    (item_there c.args.tuples.now c.loop-tuple.tuple-index c.tuple-item.result c.loop-tuple-test.true c.tuple-item.is)
    (subst (λ (es : List (SymbolicExpression _)). AllFit c.args.layout.now es) c.deref.ensures.value c.in_default.ensures) c.loop-tuple.invariant

pub returns : goal.returns
returns g c = All-held (λ tuple. AllFit c.args.layout.now tuple.items) c.args.tuples.now c.loop-tuple.tuple-index (omega (arith, c.loop-tuple-test.false)) c.loop-tuple.invariant
