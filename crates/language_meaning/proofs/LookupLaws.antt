-- Lookups, one by one.
use Rattle.std.proofs.Common.{◌++◌, ℕ, List, Result, Ok}
use Rattle.language_meaning.specs.declared.name_fault.NameRefusal.{NameRefusal}
use Rattle.language_meaning.specs.Faults.{◌>>=◌}
use Rattle.language_meaning.specs.Lookups.{Column, Constraint, Said, SentPart}
use Rattle.language_meaning.specs.Room.{InRoom}
use Rattle.language_meaning.specs.Scopes.{NamesInScope}
use Rattle.language_meaning.specs.Values.{Meant}

-- messages before those that are to come
abbrev pub with_parts : List SentPart → Result (InRoom (List SentPart)) NameRefusal → Result (InRoom (List SentPart)) NameRefusal
with_parts front read = read >>= λ ps. Ok (front ++ ps.0, ps.1)

-- lookups, public values and constraints before those that are to come
abbrev pub with_said : List Column → List ℕ → List Constraint → Result Said NameRefusal → Result Said NameRefusal
with_said columns values constraints read = read >>= λ s. Ok (record { columns = columns ++ s.columns; public_values = values ++ s.public_values; constraints = constraints ++ s.constraints; room = s.room })

-- names with these definitions
abbrev pub names_with : NamesInScope → List (List ℕ × Meant) → NamesInScope
names_with names ds = record { text = names.text; columns = names.columns; preprocessed = names.preprocessed; defined = ds }
