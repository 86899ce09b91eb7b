use Rattle.std.proofs.Common.{◌≡◌, ◌+◌, ◌-◌, length, option_map}
use Rattle.language.specs.Tables.{cells_of_line, row_at}
use Rattle.language.specs.internal.Tables.{cells_in, with_numbers}
use Rattle.language.proofs.TableLaws.{size}
use Rattle.language.proofs.table.push_row.Given as goal

-- the numbers so far and those that are left are those of the line
abbrev pub invariant-loop : goal.invariant-loop
invariant-loop l = record {
  place : l.at + size (option_map (λ x. x.now) l.rest) ≡ l.fn.at + length l.line + 1;
  told : with_numbers l.cells.items (row_at l.modulus l.at (l.width - l.counter) (cells_in (option_map (λ x. x.now) l.rest))) ≡ with_numbers l.fn.cells.items (row_at l.modulus l.fn.at l.width (cells_of_line l.line));
}
