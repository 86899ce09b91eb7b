-- Matrices of two rows.
use Rattle.std.specs.Prelude.{◌≡◌, ◌*◌, length}
use Rattle.std.proofs.Common.{arith}
use Rattle.std.proofs.lemmas.Grind.{common_steps}
use Rattle.matrix.specs.Matrix.{Matrix, row}

-- both rows of a matrix of two rows have the same length
pub same_length : {T : Type 0} (m : Matrix T) → length m.values ≡ 2 * m.width → length (row m 1) ≡ length (row m 0)
same_length m two = grind (arith, common_steps)
