-- The main window that a builder hands out.
use Rattle.air_expressions.specs.Builder.{MeansRow}
use Rattle.air_expressions.specs.declared.builder.AirBuilder.{Ghosts as AirBuilder}
use Rattle.matrix.specs.declared.window.WindowAccess.{Ghosts as WindowAccess}

-- A main window of a builder: it can be read, and its variables mean the current row of the main
-- trace and the next one. The first two arguments are the ghost members of the builder and of its
-- window.
pub record IsMainWindow {B F X V U M P S : Type 0} (members : AirBuilder B F X V U M P S) (cells : WindowAccess M V) (builder : B) (main : M) : Type 0 where
  pub can_be_read : cells.readable main
  pub current_row : MeansRow (members.stands_for builder) members.variable (members.layout builder).main_width (λ w. w.main) (cells.current main)
  pub next_row : MeansRow (members.stands_for builder) members.variable (members.layout builder).main_width (λ w. w.main_next) (cells.next main)
