-- The tables that CSV texts have.
use Rattle.std.specs.Prelude.{◌≡◌, ◌==◌, ◌&&◌, ◌+◌, ◌-◌, ◌%◌, ℕ, zero, suc, Bool, true, false, List, [], ◌∷◌, ◌++◌, Option, Some, Result, Ok, Err, drop, length, map, nat_lt, slice_index, take, if◌then◌else◌}
use Rattle.std.specs.List.{AllByRecursion, flat_map, list_any}
use Rattle.std.specs.Result.{result_ok}
use Rattle.std.specs.Str.{bytes_eq}
use Rattle.language.specs.declared.fault.Fault.{Fault}
use Rattle.language.specs.declared.fault.Why.{Why}
use Rattle.language.specs.declared.fault.Why.TheVariants as whys
use Rattle.language.specs.declared.number.Decimal.{Decimal}
use Rattle.language.specs.declared.number.Decimal.TheVariants as decimals
use Rattle.language.specs.declared.table.Table.{Table}
use Rattle.std.specs.declared.vec.Vec.{Vec}
use Rattle.std.specs.declared.alloc.Global.{Global}
use Rattle.language.specs.Faults.{◌>>=◌}
use Rattle.language.specs.Lexemes.{line_length}
use Rattle.language.specs.Numbers.{decimal_of}
use Rattle.language.specs.Places.{mark_length}

-- a byte before the first part
abbrev pub before_first_part : ℕ → List (List ℕ) → List (List ℕ)
before_first_part b [] = (b ∷ []) ∷ []
before_first_part b (part ∷ parts) = (b ∷ part) ∷ parts

-- the lines of a text, each up to an LF or to the end of the text
unfoldable pub lines_of : List ℕ → List (List ℕ)
lines_of [] = []
lines_of (b ∷ bs) = if b == 10 then [] ∷ lines_of bs else before_first_part b (lines_of bs)

-- the cells of a line, between its commas
unfoldable pub cells_of_line : List ℕ → List (List ℕ)
cells_of_line [] = [] ∷ []
cells_of_line (b ∷ bs) = if b == 44 then [] ∷ cells_of_line bs else before_first_part b (cells_of_line bs)

-- a line without the CR at its end
abbrev pub without_return : List ℕ → List ℕ
without_return line =
    if nat_lt 0 (length line) && (slice_index line (length line - 1) == 13) then take (length line - 1) line else line

-- a fault at a place
abbrev pub fault : {A : Type 0} → ℕ → Why → Result A Fault
fault at why = Err (record { at = at; why = why })

-- a number below the modulus, or its negative
abbrev pub residue_at : ℕ → ℕ → Bool → Decimal → Result ℕ Fault
residue_at modulus at negative (decimals.Value n) =
    if nat_lt n modulus then Ok (if negative then (modulus - n) % modulus else n) else fault at whys.LargeNumber
residue_at modulus at negative decimals.Large = fault at whys.LargeNumber
residue_at modulus at negative decimals.Other = fault at whys.Number

-- the number of a cell that begins here, a `-` being 45
unfoldable pub cell_at : ℕ → ℕ → List ℕ → Result ℕ Fault
cell_at modulus at [] = residue_at modulus at false (decimal_of [])
cell_at modulus at (b ∷ bs) = if b == 45 then residue_at modulus at true (decimal_of bs) else residue_at modulus at false (decimal_of (b ∷ bs))

-- the numbers of cells that begin here, which are to be so many
unfoldable pub row_at : ℕ → ℕ → ℕ → List (List ℕ) → Result (List ℕ) Fault
row_at modulus at zero [] = Ok []
row_at modulus at zero (cell ∷ cells) = fault at whys.ExtraCell
row_at modulus at (suc width) [] = fault (at - 1) whys.MissingCell
row_at modulus at (suc width) (cell ∷ cells) =
    cell_at modulus at cell >>= λ n. row_at modulus (at + (length cell + 1)) width cells >>= λ ns. Ok (n ∷ ns)

-- the numbers of lines that begin here, of so many cells each
unfoldable pub rows_at : ℕ → ℕ → ℕ → List (List ℕ) → Result (List ℕ) Fault
rows_at modulus width at [] = Ok []
rows_at modulus width at (line ∷ lines) =
    row_at modulus at width (cells_of_line (without_return line)) >>= λ row. rows_at modulus width (at + (length line + 1)) lines >>= λ rows. Ok (row ++ rows)

-- whether a name is one of these
abbrev pub is_name_among : List ℕ → List (List ℕ) → Bool
is_name_among name names = list_any (λ other. bytes_eq other name) names

-- names that begin here, after those before: none is empty, and none stood before
unfoldable pub names_from : ℕ → List (List ℕ) → List (List ℕ) → Result (List (List ℕ)) Fault
names_from at before [] = Ok before
names_from at before (name ∷ names) =
    if length name == 0 then fault at whys.EmptyName
    else if is_name_among name before then fault at whys.RepeatedName
    else names_from (at + (length name + 1)) (before ++ name ∷ []) names

-- the names of the columns
unfoldable pub header_at : ℕ → List ℕ → Result (List (List ℕ)) Fault
header_at at line = if length line == 0 then fault at whys.Header else names_from at [] (cells_of_line line)

-- names, without where they lie in memory
abbrev pub names_of : List (Vec ℕ Global) → List (List ℕ)
names_of names = map (λ name. name.items) names

-- names, and numbers
abbrev pub Numbers : Type 0
Numbers = List (List ℕ) × List ℕ

-- the names and the numbers of a table
abbrev pub table_of : Table → Numbers
table_of t = (names_of t.names.items, t.cells.items)

-- the table after its header, whose line has so many bytes
abbrev pub table_after : ℕ → ℕ → ℕ → List ℕ → Result Numbers Fault
table_after modulus at len text =
    header_at at (without_return (take len text)) >>= λ names. rows_at modulus (length names) (at + len + 1) (lines_of (drop (len + 1) text)) >>= λ cells. Ok (names, cells)

-- the table of a text, after its byte-order mark if it has one
unfoldable pub table_at : ℕ → List ℕ → Result Numbers Fault
table_at modulus text = table_after modulus (mark_length text) (line_length (drop (mark_length text) text)) (drop (mark_length text) text)

-- the number of a cell, if it has one
abbrev pub cell_number_of : ℕ → List ℕ → Option ℕ
cell_number_of modulus cell = result_ok (cell_at modulus 0 cell)

-- lines have these numbers: each line has so many cells, and the numbers are those of all cells in turn
pub record AreRows (modulus width : ℕ) (lines : List (List ℕ)) (numbers : List ℕ) : Type 0 where
  pub widths : AllByRecursion (λ line. length (cells_of_line (without_return line)) ≡ width) lines
  pub values : map (cell_number_of modulus) (flat_map (λ line. cells_of_line (without_return line)) lines) ≡ map Some numbers
