-- What the expressions of a lookup are made of on a builder's row.
use Rattle.std.specs.Prelude.{◌+◌, ◌*◌}
use Rattle.field.specs.Extension.{Extension}
use Rattle.air_expressions.specs.MainWindow.{IsMainWindow}
use Rattle.air_expressions.specs.declared.builder.AirBuilder.{Ghosts as AirBuilder}
use Rattle.air_expressions.specs.declared.view.BuilderView.{Ghosts as BuilderView}
use Rattle.lookup_constraints.specs.declared.row.LookupRow.{LookupRow}
use Rattle.lookup_constraints.specs.internal.Meanings.{MeansOn, challenge_meaning}
use Rattle.lookup_model.specs.Records.{IsWithin}
use Rattle.matrix.specs.declared.window.WindowAccess.{Ghosts as WindowAccess}

-- A lookup on a builder's row: it is within the builder's layout, the main window is the builder's, and
-- the challenges are those of the lookup's column. The first three arguments are what contracts see of
-- the builder and its window.
pub record IsLookupRow {B Q R C K Y W F X V U M P S T : Type 0} (members : AirBuilder B F X V U M P S) (cells : WindowAccess M V) (view : BuilderView B F K Y) (E : Extension F K) (row : LookupRow B Q R C K Y W F X V U M P S T) : Type 0 where
  pub within : IsWithin (members.layout row.builder.now) row.lookup.now
  pub main : IsMainWindow members cells row.builder.now row.main.now
  pub alpha : MeansOn view row.builder.now (challenge_meaning E (2 * row.lookup.now.column)) row.alpha.now
  pub beta : MeansOn view row.builder.now (challenge_meaning E (2 * row.lookup.now.column + 1)) row.beta.now
