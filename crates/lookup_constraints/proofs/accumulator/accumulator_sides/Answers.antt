use Rattle.std.proofs.Common.{refl, arith}
use Rattle.lookup_constraints.proofs.Meanings.{step_equation_on}
use Rattle.lookup_constraints.proofs.accumulator.accumulator_sides.Goals as goal

pub returns-clause-sides : goal.returns-clause-sides
returns-clause-sides g c =
    let S = g.AB.EF.PrimeCharacteristicRing.ring in
    let value = g.AB.ExprEF.Expression.value in
    let degree = g.AB.ExprEF.Expression.degree in
    let seen = g.AB.ExtensionBuilder.seen_ext in
    let stands = g.AB.ExtensionBuilder.stands_for_ext c.args.builder.now in
    let current = c.accumulator_cell-current.ensures in
    let sum = c.in_ok-sum.ensures in record {
      first = current;
      transition = step_equation_on S value degree seen stands _ _ _ c.next_accumulator_cell-next.result _ _ _ c.next_accumulator_cell-next.ensures current sum c.in_ok-transition.ensures;
      last = step_equation_on S value degree seen stands _ _ _ c.args.terminal _ _ _ (record { means = λ w at. refl; within = λ t. omega arith }) current sum c.in_ok-last.ensures;
    }
