use Rattle.std.proofs.Common.{◌≡◌, ◌<◌, ◌≤◌, ◌+◌, length}
use Rattle.language.specs.Tables.{lines_of, rows_at}
use Rattle.language.specs.internal.Tables.{with_numbers}
use Rattle.language.proofs.table.read_rows.Given as goal

-- the numbers so far and those that are left are those of the text
abbrev pub invariant-loop-rest : goal.invariant-loop-rest
invariant-loop-rest l = record {
  place : 0 < length l.rest → l.at + length l.rest ≤ l.fn.at + length l.text;
  end : l.at ≤ l.fn.at + length l.text + 1;
  told : with_numbers l.cells.items (rows_at l.modulus l.width l.at (lines_of l.rest)) ≡ rows_at l.modulus l.width l.fn.at (lines_of l.text);
}

abbrev pub decreases-loop-rest : goal.decreases-loop-rest
decreases-loop-rest l = length l.rest
