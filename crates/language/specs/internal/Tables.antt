-- Lines and cells, one by one.
use Rattle.std.specs.Prelude.{◌≡◌, ◌+◌, ◌++◌, ◌==◌, not, ℕ, List, [], Option, Some, None, Result, Ok, length}
use Rattle.std.specs.List.{take_while}
use Rattle.language.specs.declared.fault.Fault.{Fault}
use Rattle.language.specs.Faults.{◌>>=◌}
use Rattle.language.specs.Tables.{cells_of_line}

-- the cells of what is left of a line, if there is more
abbrev pub cells_in : Option (List ℕ) → List (List ℕ)
cells_in None = []
cells_in (Some line) = cells_of_line line

-- a part of so many bytes has all of a line, or a comma and the rest stand after it
abbrev pub IsAfter : ℕ → ℕ → Option (List ℕ) → Type 0
IsAfter whole part None = part ≡ whole
IsAfter whole part (Some rest) = part + 1 + length rest ≡ whole

-- numbers before those that are read
abbrev pub with_numbers : List ℕ → Result (List ℕ) Fault → Result (List ℕ) Fault
with_numbers front read = read >>= λ ns. Ok (front ++ ns)

-- how many bytes stand before the first comma
abbrev pub cell_length : List ℕ → ℕ
cell_length line = length (take_while (λ b. not (b == 44)) line)
