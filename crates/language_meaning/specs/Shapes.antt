-- How large the traces of AIRs are, where there may be none yet.
use Rattle.std.specs.Prelude.{◌/◌, ◌++◌, ℕ, Bool, List, [], ◌∷◌, Option, Some, None, Result, Ok, length, map, if◌then◌else◌}
use Rattle.std.specs.List.{list_any}
use Rattle.std.specs.Str.{bytes_eq}
use Rattle.language.specs.Batches.{Air, Section, bus, air}
use Rattle.language.specs.Items.{Item}
use Rattle.language.specs.Items as items
use Rattle.language.specs.Tables.{Numbers}
use Rattle.language.specs.declared.token.Span.{Span}
use Rattle.language_meaning.specs.Scopes.{bytes_in}
use Rattle.language_meaning.specs.declared.table_fault.TableRefusal.{TableRefusal}
use Rattle.language_meaning.specs.declared.table_fault.TableWhy.{TableWhy}
use Rattle.language_meaning.specs.declared.table_fault.TableWhy.TheVariants.{NoColumns, NoHeight, RepeatedColumn, RepeatedColumns, RepeatedHeight, RepeatedPreprocessed, RepeatedTrace}
use Rattle.language_meaning.specs.declared.shapes.AirShape.{AirShape}
use Rattle.language_meaning.specs.declared.shapes.Size.{Size as SizeOf}
use Rattle.language_meaning.specs.Files.{File}
use Rattle.language_meaning.specs.Tables.{◌>>=◌, fixed_in, fixed_table, names_in, one_of, refusal_of_table, table_named, trace_in}

-- how many rows an item says that there are
abbrev pub height_in : Item → Option ℕ
height_in (items.trace s) = None
height_in (items.preprocessed s) = None
height_in (items.lookups s) = None
height_in (items.height n) = Some n
height_in (items.columns ss) = None
height_in (items.public s n) = None
height_in (items.letting s f) = None
height_in (items.asserted f) = None
height_in (items.asserted_bool f) = None
height_in (items.message m) = None
height_in (items.together ps) = None
height_in (items.exclusive ps) = None

-- the columns that an item says that there are
abbrev pub columns_in : Item → Option (List Span)
columns_in (items.trace s) = None
columns_in (items.preprocessed s) = None
columns_in (items.lookups s) = None
columns_in (items.height n) = None
columns_in (items.columns ss) = Some ss
columns_in (items.public s n) = None
columns_in (items.letting s f) = None
columns_in (items.asserted f) = None
columns_in (items.asserted_bool f) = None
columns_in (items.message m) = None
columns_in (items.together ps) = None
columns_in (items.exclusive ps) = None

-- what has to be there
abbrev pub value_or_table_refusal : {A : Type 0} → TableWhy → ℕ → Option A → Result A TableRefusal
value_or_table_refusal why at None = refusal_of_table why at
value_or_table_refusal why at (Some x) = Ok x

-- whether a name stands among others
abbrev pub stands_in : List ℕ → List Span → Span → Bool
stands_in text names name = list_any (λ other. bytes_eq (bytes_in other text) (bytes_in name text)) names

-- no name stands twice: none of these, and none before them
abbrev pub distinct_names : List ℕ → List Span → List Span → Result (Unit {0}) TableRefusal
distinct_names text before [] = Ok tt
distinct_names text before (s ∷ ss) = if stands_in text before s then refusal_of_table RepeatedColumn s.start else distinct_names text (before ++ s ∷ []) ss

-- the columns and the rows of a main trace
abbrev pub Size : Type 0
Size = List (List ℕ) × ℕ

-- those that items say
unfoldable pub said_size : List ℕ → Air → Result Size TableRefusal
said_size text a = do
  columns ← one_of columns_in RepeatedColumns None a.items
  height ← one_of height_in RepeatedHeight None a.items
  names ← value_or_table_refusal NoColumns a.name.start columns
  rows ← value_or_table_refusal NoHeight a.name.start height
  distinct ← distinct_names text [] names
  Ok (map (λ s. bytes_in s text) names, rows)

-- those that a value of the program holds
abbrev pub size_in : SizeOf → Size
size_in s = (names_in s.columns.items, s.rows)

-- those of a table
abbrev pub size_of_table : Numbers → Size
size_of_table t = (t.0, length t.1 / length t.0)

-- those of the trace that is named, or else those that items say
abbrev pub main_size : List ℕ → List File → ℕ → Air → Option Span → Result Size TableRefusal
main_size text files modulus a (Some s) = table_named text files modulus s >>= λ t. Ok (size_of_table t)
main_size text files modulus a None = said_size text a

-- the names of the columns of a table, none where there is no table
abbrev pub column_names : Option Numbers → List (List ℕ)
column_names None = []
column_names (Some t) = t.0

-- how large the traces of an AIR are: the columns of both, and how many rows there are
pub record Shape : Type 0 where
  pub columns : List (List ℕ)
  pub preprocessed : List (List ℕ)
  pub rows : ℕ

-- a shape, without where it lies in memory
abbrev pub shape_of : AirShape → Shape
shape_of s = record { columns = names_in s.columns.items; preprocessed = names_in s.preprocessed.items; rows = s.rows }

-- that of an AIR
unfoldable pub air_shape : List ℕ → List File → ℕ → Air → Result Shape TableRefusal
air_shape text files modulus a = do
  trace ← one_of trace_in RepeatedTrace None a.items
  fixed ← one_of fixed_in RepeatedPreprocessed None a.items
  main ← main_size text files modulus a trace
  preprocessed ← fixed_table text files modulus fixed
  Ok (record { columns = main.0; preprocessed = column_names preprocessed; rows = main.1 })

-- those of all AIRs
abbrev pub all_shapes : List ℕ → List File → ℕ → List Section → Result (List Shape) TableRefusal
all_shapes text files modulus [] = Ok []
all_shapes text files modulus (bus b ∷ sections) = all_shapes text files modulus sections
all_shapes text files modulus (air a ∷ sections) = air_shape text files modulus a >>= λ s. all_shapes text files modulus sections >>= λ ss. Ok (s ∷ ss)
