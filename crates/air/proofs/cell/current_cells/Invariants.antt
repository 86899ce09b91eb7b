use Rattle.std.proofs.Common.{All, take}
use Rattle.std.specs.List.{AllZip}
use Rattle.air.specs.Cell.{IsCell}
use Rattle.air.proofs.cell.current_cells.Given as goal

abbrev pub invariant-loop-column : goal.invariant-loop-column
invariant-loop-column g l =
    AllZip (IsCell (λ x w. g.AB.Expr.Expression.value x (g.AB.AirBuilder.seen w)) (g.AB.AirBuilder.stands_for l.builder) (λ w. w.main))
    (take l.column-index l.columns) l.tuple.items
    × All (g.AB.Expr.Expression.within (g.AB.AirBuilder.layout l.builder)) l.tuple.items
