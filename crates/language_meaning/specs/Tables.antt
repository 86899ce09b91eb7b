-- The tables of the AIRs of a batch.
use Rattle.std.specs.Prelude.{◌≡◌, ℕ, List, [], ◌∷◌, Option, Some, None, Result, Ok, Err, map, option_map}
use Rattle.std.specs.declared.alloc.Global.{Global}
use Rattle.std.specs.declared.vec.Vec.{Vec}
use Rattle.language.specs.Batches.{Air, Section, bus, air}
use Rattle.language.specs.Items.{Item, Placed}
use Rattle.language.specs.Items as items
use Rattle.language.specs.Tables.{Numbers, table_at, table_of}
use Rattle.language.specs.declared.fault.Fault.{Fault}
use Rattle.language.specs.declared.token.Span.{Span}
use Rattle.language_meaning.specs.Scopes.{bytes_in}
use Rattle.language_meaning.specs.declared.table_fault.TableFault.{TableFault}
use Rattle.language_meaning.specs.declared.table_fault.TableFault.TheVariants as faults
use Rattle.language_meaning.specs.declared.table_fault.TableRefusal.{TableRefusal}
use Rattle.language_meaning.specs.declared.table_fault.TableWhy.{TableWhy}
use Rattle.language_meaning.specs.declared.table_fault.TableWhy.TheVariants.{NoTrace, RepeatedTrace, RepeatedPreprocessed, Unreadable, Text}
use Rattle.language_meaning.specs.declared.tables.AirTables.{AirTables}
use Rattle.language_meaning.specs.Files.{File, content_of}

infixl 10 ◌>>=◌
-- the value of the first step goes into the second, and a refusal is the last
abbrev pub ◌>>=◌ : {A B : Type 0} → Result A TableRefusal → (A → Result B TableRefusal) → Result B TableRefusal
(Ok x) >>= f = f x
(Err e) >>= f = Err e

-- a fault that a function returned is the refusal that there is, unless memory ran out
abbrev pub IsTableRefusalOrMemory : {Y : Type 0} → TableFault → Result Y TableRefusal → Type 0
IsTableRefusalOrMemory faults.Memory read = Unit {0}
IsTableRefusalOrMemory (faults.Refused f) read = read ≡ Err f

-- what a function returned, as view shows it, is this, unless memory ran out
abbrev pub IsTableResultOrMemory : {X Y : Type 0} → (X → Y) → Result X TableFault → Result Y TableRefusal → Type 0
IsTableResultOrMemory view (Ok x) read = read ≡ Ok (view x)
IsTableResultOrMemory view (Err e) read = IsTableRefusalOrMemory e read

-- names, without where they lie in memory
abbrev pub names_in : List (Vec ℕ Global) → List (List ℕ)
names_in names = map (λ name. name.items) names

-- a refusal at a place of the text of the batch
abbrev pub refusal_of_table : {A : Type 0} → TableWhy → ℕ → Result A TableRefusal
refusal_of_table why at = Err (record { file = None; at = at; why = why })

-- the file of a trace that an item names
abbrev pub trace_in : Item → Option Span
trace_in (items.trace s) = Some s
trace_in (items.preprocessed s) = None
trace_in (items.lookups s) = None
trace_in (items.height n) = None
trace_in (items.columns ss) = None
trace_in (items.public s n) = None
trace_in (items.letting s f) = None
trace_in (items.asserted f) = None
trace_in (items.asserted_bool f) = None
trace_in (items.message m) = None
trace_in (items.together ps) = None
trace_in (items.exclusive ps) = None

-- the file of a preprocessed trace that an item names
abbrev pub fixed_in : Item → Option Span
fixed_in (items.trace s) = None
fixed_in (items.preprocessed s) = Some s
fixed_in (items.lookups s) = None
fixed_in (items.height n) = None
fixed_in (items.columns ss) = None
fixed_in (items.public s n) = None
fixed_in (items.letting s f) = None
fixed_in (items.asserted f) = None
fixed_in (items.asserted_bool f) = None
fixed_in (items.message m) = None
fixed_in (items.together ps) = None
fixed_in (items.exclusive ps) = None

-- what is found, unless something was found before it
abbrev pub one_more : {A : Type 0} → TableWhy → ℕ → Option A → Option A → Result (Option A) TableRefusal
one_more why at found None = Ok found
one_more why at None (Some x) = Ok (Some x)
one_more why at (Some before) (Some x) = refusal_of_table why at

-- what one item has, if one has it, after what was found before them
abbrev pub one_of : {A : Type 0} → (Item → Option A) → TableWhy → Option A → List Placed → Result (Option A) TableRefusal
one_of kind why found [] = Ok found
one_of kind why found (p ∷ ps) = one_more why p.at found (kind p.item) >>= λ x. one_of kind why x ps

-- a fault of the text of a file
abbrev pub of_file : Span → Result Numbers Fault → Result Numbers TableRefusal
of_file s (Ok t) = Ok t
of_file s (Err f) = Err (record { file = Some s; at = f.at; why = Text f.why })

-- the table in a file that can be read
abbrev pub table_of_content : ℕ → Span → Option (List ℕ) → Result Numbers TableRefusal
table_of_content modulus s None = refusal_of_table Unreadable s.start
table_of_content modulus s (Some content) = of_file s (table_at modulus content)

-- the table in the file of a name
unfoldable pub table_named : List ℕ → List File → ℕ → Span → Result Numbers TableRefusal
table_named text files modulus s = table_of_content modulus s (content_of (bytes_in s text) files)

-- a file that has to be named
abbrev pub named_file : ℕ → Option Span → Result Span TableRefusal
named_file at None = refusal_of_table NoTrace at
named_file at (Some s) = Ok s

-- the table in a file, if one is named
abbrev pub fixed_table : List ℕ → List File → ℕ → Option Span → Result (Option Numbers) TableRefusal
fixed_table text files modulus None = Ok None
fixed_table text files modulus (Some s) = table_named text files modulus s >>= λ t. Ok (Some t)

-- the tables of an AIR: that of its trace, and that of its preprocessed trace if it names one
pub record TablesOf : Type 0 where
  pub main : Numbers
  pub preprocessed : Option Numbers

-- tables, without where they lie in memory
abbrev pub tables_of : AirTables → TablesOf
tables_of t = record { main = table_of t.main; preprocessed = option_map table_of t.preprocessed }

-- the tables of an AIR
unfoldable pub air_tables : List ℕ → List File → ℕ → Air → Result TablesOf TableRefusal
air_tables text files modulus a = do
  found ← one_of trace_in RepeatedTrace None a.items
  trace ← named_file a.name.start found
  fixed ← one_of fixed_in RepeatedPreprocessed None a.items
  main ← table_named text files modulus trace
  preprocessed ← fixed_table text files modulus fixed
  Ok (record { main = main; preprocessed = preprocessed })

-- the tables of each AIR
abbrev pub all_tables : List ℕ → List File → ℕ → List Section → Result (List TablesOf) TableRefusal
all_tables text files modulus [] = Ok []
all_tables text files modulus (bus b ∷ sections) = all_tables text files modulus sections
all_tables text files modulus (air a ∷ sections) = air_tables text files modulus a >>= λ t. all_tables text files modulus sections >>= λ ts. Ok (t ∷ ts)
