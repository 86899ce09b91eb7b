-- What is shown of lookups that tables encode, in one value.
use Rattle.std.specs.Prelude.{◌≡◌, ◌≢◌, ◌⊎◌, ℕ, Bool, List, MatchResult, Result, length}
use Rattle.field.specs.Residue.{Residue}
use Rattle.field.specs.Ring.{Ring}
use Rattle.c_tables.specs.declared.tables.Span.{Span}
use Rattle.c_tables.specs.declared.tables.Tables.{Tables}
use Rattle.c_calls.specs.BatchTables.{IsSetOfTablesRefusal}
use Rattle.c_calls.specs.Constraints.{IsConstraintsRefusal}
use Rattle.c_calls.specs.Enforced.{EnforcesTables, IsEnforcedRefusal}
use Rattle.c_calls.specs.declared.codes.Part.TheVariants as part
use Rattle.c_calls.specs.declared.enforced.Bound.{Bound}
use Rattle.c_calls.specs.declared.enforced.Enforced.{Enforced}
use Rattle.c_calls.specs.declared.enforced.Shown.{Shown}
use Rattle.c_calls.specs.declared.fault.Fault.{Fault}
use Rattle.c_calls.specs.declared.fault.Fault.TheVariants.{Length, Memory}

-- the refusal before there are any answers
abbrev pub IsShowRefusal : ℕ → Tables → Span → List ℕ → Fault → Type 0
IsShowRefusal p tables span queries fault =
    (fault ≡ Memory)
    ⊎ (IsSetOfTablesRefusal p 0 tables fault
    ⊎ (IsConstraintsRefusal p tables.nodes.now span fault
    ⊎ ((length queries ≢ length tables.tuples.now) × (fault ≡ Length part.Queries (length tables.tuples.now) (length queries)))))

module _ {p : ℕ} (R : Ring (Residue p)) (eq : Residue p → Residue p → Bool) (tables : Tables) (span : Span) (height : ℕ) (queries : List ℕ) where
  -- what is shown, in one value
  abbrev pub ShowsTables : Shown → Type 0
  ShowsTables made = EnforcesTables R eq tables span height queries made.lookups.items made.bounds.items

  -- and there is room for exactly that
  abbrev pub ShowsInRoom : ℕ → ℕ → Shown → Type 0
  ShowsInRoom room bounds_room made = ShowsTables made × (length made.lookups.items ≡ room) × (length made.bounds.items ≡ bounds_room)

  -- the result of a call: what is written, or its refusal
  abbrev pub ResultOfEnforced : ℕ → ℕ → List Enforced → List Bound → Result (Unit {0}) Fault → Type 0
  ResultOfEnforced room bounds_room answers bounds result =
      MatchResult result (λ _. EnforcesTables R eq tables span height queries answers bounds) (IsEnforcedRefusal R eq tables span height queries room bounds_room)
