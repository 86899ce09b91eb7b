-- Elements and numbers that a call writes.
use Rattle.std.specs.Prelude.{◌≡◌, ◌+◌, ◌*◌, ℕ, List, [], ◌∷◌, MatchOption, Option, None, Some, map}
use Rattle.field.specs.Residue.{Residue}
use Rattle.field_monty.specs.Quartic.{Quartic}
use Rattle.lookup_model.specs.declared.types.LookupTerminal.{LookupTerminal}
use Rattle.matrix.specs.Matrix.{Matrix}
use Rattle.c_tables.specs.Numbers.{numbers_of}
use Rattle.c_calls.specs.declared.outputs.Terminal.{Terminal}
use Rattle.c_calls.specs.declared.outputs.Wide.{Wide}

-- the cells of a trace, row after row
abbrev pub output_cells : {p : ℕ} → Matrix (Quartic (Residue p)) → List (List ℕ)
output_cells trace = map numbers_of trace.values

-- the numbers of a terminal, if there is one
abbrev pub terminal_numbers : {p : ℕ} → Option (LookupTerminal (Quartic (Residue p))) → Terminal
terminal_numbers None = record { present = 0; value = 0 ∷ 0 ∷ 0 ∷ 0 ∷ [] }
terminal_numbers (Some terminal) = record { present = 1; value = numbers_of terminal.0 }

-- the number that two halves make
abbrev pub wide_number : Wide → ℕ
wide_number w = w.high * 18446744073709551616 + w.low

-- a number that may be absent: 1 and the number, or 0 and 0
abbrev pub IsOptionalWide : Option ℕ → ℕ → Wide → Type 0
IsOptionalWide n present w = MatchOption n ((present ≡ 0) × (wide_number w ≡ 0)) (λ m. (present ≡ 1) × (wide_number w ≡ m))
