-- The buses that a text declares, and the tuples that they take.
use Rattle.std.specs.Prelude.{◌==◌, ℕ, Bool, true, false, List, [], ◌∷◌, ◌++◌, Option, Some, None, Result, Ok, is_some, length, nat_lt, if◌then◌else◌}
use Rattle.std.specs.Str.{bytes_eq}
use Rattle.language.specs.Batches.{Bus, Section, bus, air}
use Rattle.language.specs.declared.token.Span.{Span}
use Rattle.language_meaning.specs.declared.name_fault.NameRefusal.{NameRefusal}
use Rattle.language_meaning.specs.declared.name_fault.NameWhy.TheVariants.{UndeclaredBus, TupleWidth, RepeatedBus}
use Rattle.language_meaning.specs.Faults.{refusal_of_name}
use Rattle.language_meaning.specs.Scopes.{bytes_in}

-- the buses among the sections of a text
abbrev pub buses_of : List Section → List Bus
buses_of [] = []
buses_of (bus b ∷ sections) = b ∷ buses_of sections
buses_of (air a ∷ sections) = buses_of sections

-- how many values a tuple has on the first bus with a name
abbrev pub declared_width : List ℕ → List ℕ → List Bus → Option ℕ
declared_width text name [] = None
declared_width text name (b ∷ bs) = if bytes_eq (bytes_in b.name text) name then Some (length b.fields) else declared_width text name bs

-- whether some bus is declared
abbrev pub declares_any : List Bus → Bool
declares_any bs = nat_lt 0 (length bs)

-- a tuple has as many values as are declared, and a bus is declared where any is
abbrev pub width_checked : Span → List Bus → ℕ → Option ℕ → Result (Unit {0}) NameRefusal
width_checked name bs width (Some declared) = if declared == width then Ok tt else refusal_of_name TupleWidth name.start
width_checked name bs width None = if declares_any bs then refusal_of_name UndeclaredBus name.start else Ok tt

-- a bus takes tuples of so many values; one of a lookup's own takes all
unfoldable pub bus_checked : List ℕ → List Bus → Option Span → ℕ → Result (Unit {0}) NameRefusal
bus_checked text bs None width = Ok tt
bus_checked text bs (Some name) width = width_checked name bs width (declared_width text (bytes_in name text) bs)

-- no bus is declared twice: none of these, and none before them
abbrev pub distinct_after : List ℕ → List Bus → List Bus → Result (Unit {0}) NameRefusal
distinct_after text before [] = Ok tt
distinct_after text before (b ∷ bs) = if is_some (declared_width text (bytes_in b.name text) before) then refusal_of_name RepeatedBus b.name.start else distinct_after text (before ++ b ∷ []) bs

-- no bus of a text is declared twice
abbrev pub distinct_buses : List ℕ → List Section → Result (Unit {0}) NameRefusal
distinct_buses text sections = distinct_after text [] (buses_of sections)

-- whether two names of buses are one; none stands for a bus of a lookup's own
unfoldable pub same_bus : List ℕ → Option Span → Option Span → Bool
same_bus text None None = true
same_bus text (Some left) (Some right) = bytes_eq (bytes_in left text) (bytes_in right text)
same_bus text left right = false
