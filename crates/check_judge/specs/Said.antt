-- What a text says of each AIR, over its columns and over its tables: its lookups and its traces.
use Rattle.std.specs.Prelude.{◌≡◌, ℕ, List, [], ◌∷◌, Option, None, Some, Ok, Result, length, map, option_map}
use Rattle.air.specs.Traces.{AirTraces, air_traces}
use Rattle.lookup_debug.specs.Contributions.{Traced}
use Rattle.lookup_debug.specs.Fits.{FitTraces}
use Rattle.language_meaning.specs.Columns.{outlines_in}
use Rattle.language_meaning.specs.Traces.{HasWholeRows}
use Rattle.language_meaning.specs.Shapes.{Shape, column_names}
use Rattle.language_meaning.specs.Tables.{TablesOf}
use Rattle.lookup_model.specs.Outline.{outline_of}
use Rattle.lookup_model.specs.declared.types.Lookup.{Lookup}
use Rattle.language_meaning.specs.Lookups.{Said, said_by_items}
use Rattle.language_meaning.specs.declared.name_fault.NameRefusal.{NameRefusal}
use Rattle.language_meaning.specs.Scopes.{NamesInScope}
use Rattle.language.specs.Batches.{Air, Section, bus, air}
use Rattle.language.specs.Tables.{Numbers}
use Rattle.matrix.specs.Matrix.{Matrix}

-- the AIRs among the sections of a text
abbrev pub airs_of : List Section → List Air
airs_of [] = []
airs_of (bus b ∷ sections) = airs_of sections
airs_of (air a ∷ sections) = a ∷ airs_of sections

-- what names stand for over these columns of the main and the preprocessed trace, before any definition
abbrev pub names_over : List ℕ → List (List ℕ) → List (List ℕ) → NamesInScope
names_over text columns fixed = record { text = text; columns = columns; preprocessed = fixed; defined = [] }

module _ (text : List ℕ) (sections : List Section) where
  -- what the items of an AIR say over these columns, in room for so many nodes
  abbrev pub said_over : Air → List (List ℕ) → List (List ℕ) → ℕ → Result Said NameRefusal
  said_over a columns fixed room = said_by_items sections (names_over text columns fixed) 0 a.items room

  -- they say this
  abbrev pub SaysOver : Air → List (List ℕ) → List (List ℕ) → ℕ → Said → Type 0
  SaysOver a columns fixed room said = said_over a columns fixed room ≡ Ok said

  -- so they do over the columns of each AIR; each AIR leaves room for those after it
  abbrev pub SayOver : ℕ → List Air → List Shape → List Said → Type 0
  SayOver room [] [] [] = Unit {0}
  SayOver room (a ∷ airs) (s ∷ ss) (x ∷ xs) = SaysOver a s.columns s.preprocessed room x × SayOver x.room airs ss xs
  SayOver room airs ss xs = ⊥

-- Something is so of each AIR with its tables, with the room that is left to it and with what its items say; each AIR
-- leaves room for those after it.
abbrev pub AreEach : {X : Type 0} → (Air → TablesOf → ℕ → Said → X → Type 0) → ℕ → List Air → List TablesOf → List X → Type 0
AreEach Is room [] [] [] = Unit {0}
AreEach Is room (a ∷ airs) (t ∷ ts) (x ∷ xs) = (said : Said) × Is a t room said x × AreEach Is said.room airs ts xs
AreEach Is room airs ts xs = ⊥

-- a table has columns and rows, and each row is whole
abbrev pub IsWhole : Numbers → Type 0
IsWhole t = HasWholeRows (length t.0) (length t.1)

-- so is a table, if there is one
abbrev pub AreWhole : Option Numbers → Type 0
AreWhole None = Unit {0}
AreWhole (Some t) = IsWhole t

module _ {F : Type 0} (element : ℕ → F) where
  -- a table as a trace
  abbrev pub trace_in : Numbers → Matrix F
  trace_in t = record { values = map element t.1; width = length t.0 }

  -- the traces of an AIR: its tables, and the public values that its items say
  abbrev pub traces_in : TablesOf → Said → AirTraces F
  traces_in tables said = air_traces (trace_in tables.main) (option_map trace_in tables.preprocessed) (map element said.public_values)

  -- lookups over a field are those that items say
  abbrev pub AreLookupsOf : List ℕ → Said → List (Lookup F) → Type 0
  AreLookupsOf text said lookups = map outline_of lookups ≡ outlines_in element text 0 said.columns

  module _ (text : List ℕ) (sections : List Section) where
    -- The lookups and the traces of an AIR are those that its items and its tables say; the tables are whole, and the
    -- lookups fit them.
    pub record IsSaid (a : Air) (tables : TablesOf) (room : ℕ) (said : Said) (traced : Traced F) : Type 0 where
      pub items : SaysOver text sections a tables.main.0 (column_names tables.preprocessed) room said
      pub lookups : AreLookupsOf text said traced.lookups
      pub traces : traced.traces ≡ traces_in tables said
      pub fixed_whole : AreWhole tables.preprocessed
      pub main_whole : IsWhole tables.main
      pub fit : FitTraces traced.traces traced.lookups

    -- so it is of each AIR, with tables for each
    abbrev pub AreSaid : ℕ → List Air → List TablesOf → List (Traced F) → Type 0
    AreSaid = AreEach IsSaid
