use Rattle.std.proofs.Common.{◌≡◌, ◌+◌, length, option_map}
use Rattle.language.specs.Tables.{header_at, names_from, names_of}
use Rattle.language.specs.internal.Tables.{cells_in}
use Rattle.language.proofs.TableLaws.{size}
use Rattle.language.proofs.table.read_header.Given as goal

-- the names so far and those that are left are those of the line
abbrev pub invariant-loop-rest : goal.invariant-loop-rest
invariant-loop-rest l = record {
  place : l.at + size (option_map (λ x. x.now) l.rest) ≡ l.fn.at + length l.line + 1;
  told : names_from l.at (names_of l.names.items) (cells_in (option_map (λ x. x.now) l.rest)) ≡ header_at l.fn.at l.line;
}

abbrev pub decreases-loop-rest : goal.decreases-loop-rest
decreases-loop-rest l = size (option_map (λ x. x.now) l.rest)
