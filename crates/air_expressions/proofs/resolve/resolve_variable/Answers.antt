use Rattle.std.proofs.Common.{◌<◌, ◌∙◌, length, arith}
use Rattle.air_expressions.proofs.Cells.{reads_at, row_at_means, within_row}
use Rattle.air_expressions.proofs.resolve.resolve_variable.Goals as goal

pub cell-requires-clause-readable : goal.cell-requires-clause-readable
cell-requires-clause-readable g c = c.preprocessed.ensures.readable

pub cell-requires-clause-within : goal.cell-requires-clause-within
cell-requires-clause-within g c =
    let fits = rw c.in-Preprocessed.is at c.requires.fits in
    within_row _ (row_at_means _ _ _ _ _ _ _ _ fits.0 c.preprocessed.ensures.current c.preprocessed.ensures.next) fits.1

pub cell-requires-in-Main-clause-readable : goal.cell-requires-in-Main-clause-readable
cell-requires-in-Main-clause-readable g c = c.requires.main.can_be_read

pub cell-requires-in-Main-clause-within : goal.cell-requires-in-Main-clause-within
cell-requires-in-Main-clause-within g c =
    let fits = rw c.in-Main.is at c.requires.fits in
    within_row _ (row_at_means _ _ _ _ _ _ _ _ fits.0 c.requires.main.current_row c.requires.main.next_row) fits.1

pub offset_bounds-public_values-variable : goal.offset_bounds-public_values-variable
offset_bounds-public_values-variable g c =
    let within : c.args.variable.index < length c.public_values.result.now = within_row _ c.public_values.ensures.means (rw c.in-Public.is at c.requires.fits) in
    omega arith

pub bounds-public_values-variable : goal.bounds-public_values-variable
bounds-public_values-variable g c = within_row _ c.public_values.ensures.means (rw c.in-Public.is at c.requires.fits)

pub returns-in-Preprocessed-clause-means : goal.returns-in-Preprocessed-clause-means
returns-in-Preprocessed-clause-means g c =
    let fits = rw c.in-Preprocessed.is at c.requires.fits in
    rw c.in-Preprocessed.is (λ w stands. g.met.AB.AirBuilder.variable_converts _ _ w c.into.ensures ∙ reads_at _ _ _ _ _ _ _ w _ (row_at_means _ _ _ _ _ _ _ _ fits.0 c.preprocessed.ensures.current c.preprocessed.ensures.next) c.cell.ensures stands)

pub returns-in-Preprocessed-clause-degree : goal.returns-in-Preprocessed-clause-degree
returns-in-Preprocessed-clause-degree g c = rw c.in-Preprocessed.is (λ t. g.met.AB.AirBuilder.variable_degree _ _ t c.into.ensures)

pub returns-in-Main-clause-means : goal.returns-in-Main-clause-means
returns-in-Main-clause-means g c =
    let fits = rw c.in-Main.is at c.requires.fits in
    rw c.in-Main.is (λ w stands. g.met.AB.AirBuilder.variable_converts _ _ w c.into-in-Main.ensures ∙ reads_at _ _ _ _ _ _ _ w _ (row_at_means _ _ _ _ _ _ _ _ fits.0 c.requires.main.current_row c.requires.main.next_row) c.cell-in-Main.ensures stands)

pub returns-in-Main-clause-degree : goal.returns-in-Main-clause-degree
returns-in-Main-clause-degree g c = rw c.in-Main.is (λ t. g.met.AB.AirBuilder.variable_degree _ _ t c.into-in-Main.ensures)
