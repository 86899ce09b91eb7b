use Rattle.air_expressions.proofs.base_expression.SymbolicExpression.resolve.Goals as goal

pub resolve_over-requires-clause-fits : goal.resolve_over-requires-clause-fits
resolve_over-requires-clause-fits g c = c.requires

pub resolve_over-requires-clause-main : goal.resolve_over-requires-clause-main
resolve_over-requires-clause-main g c = record {
  can_be_read = c.in_ok-main.ensures.readable;
  current_row = c.in_ok-main.ensures.current;
  next_row = c.in_ok-main.ensures.next;
}

pub returns-clause-means : goal.returns-clause-means
returns-clause-means g c = c.in_ok-resolve_over.ensures.means

pub returns-clause-degree : goal.returns-clause-degree
returns-clause-degree g c = c.in_ok-resolve_over.ensures.degree
