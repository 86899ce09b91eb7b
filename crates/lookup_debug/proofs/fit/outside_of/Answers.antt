use Rattle.std.proofs.Common.{arith}
use Rattle.list_laws.proofs.Each.{All-held}
use Rattle.air_expressions.specs.Layout.{Fits}
use Rattle.air_expressions.specs.Tree.{tree_of}
use Rattle.lookup_model.specs.Records.{AllFit}
use Rattle.lookup_debug.proofs.fit.outside_of.Goals as goal

pub returns : goal.returns
unfolding AllFit
returns g c = All-held (λ e. Fits c.args.layout.now (tree_of e)) c.args.expressions.now c.loop-expression.expression-index (omega (arith, c.loop-expression-test.false)) c.loop-expression.invariant
