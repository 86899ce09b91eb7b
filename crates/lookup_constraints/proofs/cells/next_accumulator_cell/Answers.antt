use Rattle.std.proofs.Common.{◌∙◌, arith}
use Rattle.air_expressions.proofs.Cells.{reads_at}
use Rattle.lookup_constraints.proofs.FoundCells.{found_at}
use Rattle.lookup_constraints.proofs.cells.next_accumulator_cell.Goals as goal

pub returns : goal.returns
returns g c = record {
  means = λ w stands.
      let row = c.requires.window.next_row in
      let found = found_at _ _ 0 _ c.next_slice.ensures (omega (arith, row.len, c.requires.within)) c.index-next_slice-0.is in
      g.met.AB.ExtensionBuilder.variable_ext_converts _ _ w c.into.ensures ∙ reads_at _ _ _ _ _ 0 _ w _ row found stands;
  within = λ t. g.met.AB.ExtensionBuilder.variable_ext_degree _ _ t c.into.ensures;
}
