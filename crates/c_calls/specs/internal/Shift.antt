-- Numbers that a shift takes.
use Rattle.std.specs.Prelude.{◌<◌, ◌≡◌, ℕ, List, length, true}
use Rattle.field.specs.Residue.{Residue}
use Rattle.field_monty.specs.Quartic.{Quartic}
use Rattle.c_tables.specs.Numbers.{AreNumberGroupsBelow, IsNumberGroup, quartic_of_numbers}
use Rattle.c_tables.specs.TraceNumbers.{makes_rows}

-- the cells make whole rows, they and the offset are below the modulus, and this is the offset
pub record AreShiftable {p : ℕ} (positive : 0 < p) (cells : List (List ℕ)) (width : ℕ) (offset : List ℕ) (element : Quartic (Residue p)) : Type 0 where
  pub element_is : element ≡ quartic_of_numbers positive offset
  pub offset_below : IsNumberGroup p offset
  pub whole : makes_rows (length cells) width ≡ true
  pub cells_below : AreNumberGroupsBelow p (length cells) cells
