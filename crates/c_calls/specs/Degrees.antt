-- What is answered for the degrees of lookups.
use Rattle.std.specs.Prelude.{◌≡◌, ◌≢◌, ◌⊎◌, ◌^◌, ◌≤◌, ℕ, List, Some, length, map, slice_get}
use Rattle.field.specs.Residue.{Residue}
use Rattle.lookup_model.specs.LookupDegree.{lookup_degree}
use Rattle.lookup_model.specs.declared.error.LookupError.TheVariants.{DegreeOverflow}
use Rattle.lookup_model.specs.declared.types.Lookup.{Lookup}
use Rattle.c_tables.specs.Tables.{TablesEncode}
use Rattle.c_tables.specs.declared.tables.Tables.{Tables}
use Rattle.c_calls.specs.BatchTables.{IsSetOfTablesRefusal}
use Rattle.c_calls.specs.declared.fault.Fault.{Fault}
use Rattle.c_calls.specs.declared.fault.Fault.TheVariants.{Length, Lookup as OfLookup, Memory}
use Rattle.c_calls.specs.declared.codes.Part.TheVariants.{Degrees}

-- a degree that does not fit 64 bits; or memory runs out
abbrev pub IsLargeDegreesRefusal : {F : Type 0} → ℕ → List (Lookup F) → Fault → Type 0
IsLargeDegreesRefusal {F} transition_degree lookups fault =
    (fault ≡ Memory)
    ⊎ ((i : ℕ) × (lookup : Lookup F) × (slice_get lookups i ≡ Some lookup) × (2 ^ 64 ≤ lookup_degree transition_degree lookup) × (fault ≡ OfLookup 0 DegreeOverflow))

-- the degree of each lookup that the tables encode, where the transition selector has this degree
pub record CallGivesDegrees (p : ℕ) (tables : Tables) (transition_degree : ℕ) (degrees : List ℕ) : Type 0 where
  pub lookups : List (Lookup (Residue p))
  pub encoded : TablesEncode tables lookups
  pub degrees_are : degrees ≡ map (lookup_degree transition_degree) lookups

-- The refusal of the lookups, of a degree, or for the room.
abbrev pub IsDegreesRefusal : ℕ → Tables → ℕ → ℕ → Fault → Type 0
IsDegreesRefusal p tables transition_degree room fault =
    IsSetOfTablesRefusal p 0 tables fault
    ⊎ ((lookups : List (Lookup (Residue p))) × TablesEncode tables lookups
    × (IsLargeDegreesRefusal transition_degree lookups fault ⊎ ((length lookups ≢ room) × (fault ≡ Length Degrees (length lookups) room))))
