-- What is answered for what constraints are shown to enforce.
use Rattle.std.specs.Prelude.{◌≡◌, ◌≢◌, ◌⊎◌, ◌+◌, ◌*◌, ◌==◌, ◌↔◌, ℕ, Bool, IsTrue, List, Option, None, Some, length, map, not}
use Rattle.std.specs.Int.{from_bool}
use Rattle.std.specs.List.{AllZip, flat_map, zip}
use Rattle.field.specs.Residue.{Residue}
use Rattle.field.specs.Ring.{Ring}
use Rattle.air_constraints.specs.declared.kind.RowKind.{RowKind}
use Rattle.air_expressions.specs.declared.base_expression.SymbolicExpression.{SymbolicExpression}
use Rattle.lookup_enforced.specs.Enforced.{EnforcesWeight, IsEnforcement}
use Rattle.lookup_enforced.specs.Weights.{StaysWithinWeight}
use Rattle.lookup_enforced.specs.declared.enforcement.Enforcement.{Enforcement}
use Rattle.lookup_enforced.specs.declared.enforcement.Missing.{Missing}
use Rattle.lookup_enforced.specs.declared.enforcement.Missing.TheVariants.{Exclusive, Flag}
use Rattle.lookup_model.specs.declared.types.Lookup.{Lookup}
use Rattle.c_tables.specs.Tables.{RangeEncodes, TablesEncode, table_items}
use Rattle.c_tables.specs.declared.tables.Record.{Record}
use Rattle.c_tables.specs.declared.tables.Span.{Span}
use Rattle.c_tables.specs.declared.tables.Tables.{Tables}
use Rattle.c_calls.specs.BatchTables.{IsSetOfTablesRefusal}
use Rattle.c_calls.specs.CallAnswers.{CallAnswers}
use Rattle.c_calls.specs.Constraints.{IsConstraintsRefusal}
use Rattle.c_calls.specs.declared.codes.Part.TheVariants as part
use Rattle.c_calls.specs.declared.enforced.Bound.{Bound}
use Rattle.c_calls.specs.declared.enforced.Enforced.{Enforced}
use Rattle.c_calls.specs.declared.fault.Fault.{Fault}
use Rattle.c_calls.specs.declared.fault.Fault.TheVariants.{Length, Memory}
use Rattle.c_calls.specs.declared.refusal.Refusal.{Refusal}

-- a byte says that a tuple is a query, unless it is 0
abbrev pub is_query : ℕ → Bool
is_query byte = not (byte == 0)

-- the number of a kind of rows: 1 of the first one, 2 of the last one, and 3 of one that is both
abbrev pub rows_number : RowKind → ℕ
rows_number kind = from_bool kind.is_first + 2 * from_bool kind.is_last

-- the numbers of a bound, or of none
abbrev pub bound_numbers : Option ℕ → Bound
bound_numbers None = record { present = 0; bound = 0 }
bound_numbers (Some bound) = record { present = 1; bound = bound }

-- those of a lookup
abbrev pub bound_list : Enforcement → List Bound
bound_list e = map bound_numbers e.bounds.items

-- numbers with those of what is missing: 1 of a flag, 2 of exclusion
abbrev pub missing_numbers : Option Missing → Enforced → Enforced
missing_numbers None numbers = numbers
missing_numbers (Some (Flag flag kind)) numbers = record numbers { missing = 1; rows = rows_number kind; flag = flag }
missing_numbers (Some (Exclusive kind)) numbers = record numbers { missing = 2; rows = rows_number kind }

-- the numbers of what is shown of a lookup, and of whether its weight is kept
abbrev pub enforced_numbers : Enforcement → Bool → Enforced
enforced_numbers e kept = missing_numbers e.missing (record { flags = from_bool e.flags; weight = from_bool kept; missing = 0; rows = 0; flag = 0 })

module _ {F : Type 0} (R : Ring F) (eq : F → F → Bool) where
  -- The answer for a lookup of which this is shown, with these tuples as queries: its numbers, and whether its queries
  -- stay within its weight, which is so exactly if their bounds do. Then the weight is enforced by all constraints that
  -- enforce what is shown.
  pub record IsAnswerFor (queries : List Bool) (lookup : Lookup F) (e : Enforcement) (answer : Enforced) : Type 0 where
    pub kept : Bool
    pub kept_is : IsTrue kept ↔ StaysWithinWeight lookup e queries
    pub enforced : IsTrue kept → (height : ℕ) (constraints : List (SymbolicExpression F))
        → IsEnforcement R eq height constraints lookup e → EnforcesWeight R eq height constraints lookup queries
    pub answer_is : answer ≡ enforced_numbers e kept

  -- the same of a record with its lookup, whose queries stand at the places of its tuples
  abbrev pub IsAnswerOf : List Bool → Record × (Lookup F × Enforcement) → Enforced → Type 0
  IsAnswerOf queries t answer = IsAnswerFor (table_items queries t.0.tuples) t.1.0 t.1.1 answer

module _ {p : ℕ} (R : Ring (Residue p)) (eq : Residue p → Residue p → Bool) (tables : Tables) (span : Span) (height : ℕ) (queries : List ℕ) where
  -- What the constraints that stand in a range of nodes are shown to enforce of the lookups that the tables encode,
  -- on traces of this height: an answer for each lookup, and the bounds of all multiplicities, lookup by lookup.
  pub record EnforcesTables (answers : List Enforced) (bounds : List Bound) : Type 0 where
    pub lookups : List (Lookup (Residue p))
    pub encoded : TablesEncode tables lookups
    pub constraints : List (SymbolicExpression (Residue p))
    pub constraints_are : RangeEncodes tables.nodes.now span constraints
    pub as_many : length queries ≡ length tables.tuples.now
    pub shown : List Enforcement
    pub shown_are : AllZip (IsEnforcement R eq height constraints) lookups shown
    pub answers_are : AllZip (IsAnswerOf R eq (map is_query queries)) (zip tables.records.now (zip lookups shown)) answers
    pub bounds_are : bounds ≡ flat_map bound_list shown

  -- The refusal of room for another number of answers, or else of bounds.
  abbrev pub IsOtherEnforcedRoom : ℕ → ℕ → Fault → Type 0
  IsOtherEnforcedRoom room bounds_room fault =
      (answers : List Enforced) × (bounds : List Bound) × EnforcesTables answers bounds
      × (((length answers ≢ room) × (fault ≡ Length part.Enforced (length answers) room))
      ⊎ ((length answers ≡ room) × (length bounds ≢ bounds_room) × (fault ≡ Length part.Bounds (length bounds) bounds_room)))

  -- The refusal of the tables, of the constraints, of the number of queries, or for the room; or memory runs out.
  abbrev pub IsEnforcedRefusal : ℕ → ℕ → Fault → Type 0
  IsEnforcedRefusal room bounds_room fault =
      (fault ≡ Memory)
      ⊎ (IsSetOfTablesRefusal p 0 tables fault
      ⊎ (IsConstraintsRefusal p tables.nodes.now span fault
      ⊎ (((length queries ≢ length tables.tuples.now) × (fault ≡ Length part.Queries (length tables.tuples.now) (length queries)))
      ⊎ IsOtherEnforcedRoom room bounds_room fault)))

  -- the code and the refusal of a call that says what is enforced
  abbrev pub AnswersEnforced : ℕ → ℕ → List Enforced → List Bound → ℕ → Refusal → Type 0
  AnswersEnforced room bounds_room answers bounds code refusal =
      CallAnswers code refusal (EnforcesTables answers bounds) (IsEnforcedRefusal room bounds_room)
