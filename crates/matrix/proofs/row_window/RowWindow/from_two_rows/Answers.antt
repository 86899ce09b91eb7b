use Rattle.std.proofs.Common.{refl}
use Rattle.matrix.proofs.row_window.RowWindow.from_two_rows.Goals as goal

pub returns-clause-current : goal.returns-clause-current
returns-clause-current g c = refl

pub returns-clause-next : goal.returns-clause-next
returns-clause-next g c = refl
