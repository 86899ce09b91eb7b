use Rattle.std.proofs.Common.{refl, ◌∙◌, arith}
use Rattle.air_expressions.proofs.Cells.{reads_at}
use Rattle.lookup_constraints.proofs.FoundCells.{found_at}
use Rattle.lookup_constraints.proofs.cells.terminal.Goals as goal

pub returns-clause-means : goal.returns-clause-means
returns-clause-means g c = λ w stands.
    let values = c.permutation_values.ensures.means in
    let found = found_at _ _ 0 _ refl (omega (arith, values.len, c.requires)) c.index-permutation_values-0.is in
    g.met.AB.PermutationAirBuilder.permutation_value_converts _ _ w c.into.ensures ∙ reads_at _ _ _ _ _ 0 _ w _ values found stands

pub returns-clause-degree : goal.returns-clause-degree
returns-clause-degree g c = λ t.
    let found = found_at _ _ 0 _ refl (omega (arith, c.permutation_values.ensures.means.len, c.requires)) c.index-permutation_values-0.is in
    c.permutation_values.ensures.degree 0 t _ _ found c.into.ensures
