use Rattle.std.proofs.lemmas.List.Elements.{All-push}
use Rattle.lookup_tests.proofs.tests.extraction.ones.Goals as goal

pub loop-preserved : goal.loop-preserved
loop-preserved g c layout = rw c.in_ok-push.ensures.items
    (All-push (g.AB.Expr.Expression.within layout) c.loop.tuple.items c.constant.result (c.loop.invariant layout) (c.constant.ensures.within layout))
