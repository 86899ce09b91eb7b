-- The lookups of an AIR: what its items say, over columns by their numbers.
use Rattle.std.specs.Prelude.{◌+◌, ℕ, Bool, true, false, List, [], ◌∷◌, Option, Some, None, Result, Ok, is_some, length, map, option_map, if◌then◌else◌}
use Rattle.language.specs.declared.token.Span.{Span}
use Rattle.language.specs.Batches.{Section}
use Rattle.language.specs.Formulas.{Formula}
use Rattle.language.specs.Items.{Item, Part, Placed}
use Rattle.language.specs.Items as items
use Rattle.language.specs.Messages.{Message}
use Rattle.language_meaning.specs.declared.named_air.Added.{Added}
use Rattle.language_meaning.specs.declared.named_air.Added.TheVariants as added
use Rattle.language_meaning.specs.declared.named_air.NamedAir.{NamedAir}
use Rattle.language_meaning.specs.declared.named_air.NamedLookup.{NamedLookup}
use Rattle.language_meaning.specs.declared.named_air.NamedPart.{NamedPart}
use Rattle.language_meaning.specs.declared.constraint.NamedConstraint.{NamedConstraint}
use Rattle.language_meaning.specs.declared.name_fault.NameRefusal.{NameRefusal}
use Rattle.language_meaning.specs.declared.name_fault.NameWhy.TheVariants.{EmptyGroup, LookupsFile, OtherBus, RepeatedDefinition}
use Rattle.language_meaning.specs.Buses.{bus_checked, buses_of, same_bus}
use Rattle.language_meaning.specs.Faults.{◌>>=◌, refusal_of_name}
use Rattle.language_meaning.specs.Messages.{Sent, meant_message, sent_of}
use Rattle.language_meaning.specs.Room.{InRoom}
use Rattle.language_meaning.specs.Scopes.{NamesInScope, boolean_of, bytes_in, defined_of, definition, meaning, with_definition}
use Rattle.language_meaning.specs.Values.{Meant, meant_of}
use Rattle.language_meaning.specs.Values as values

-- a message of a lookup, in an exclusive lookup with its flag
pub record SentPart : Type 0 where
  pub flag : Option Meant
  pub message : Sent

-- a message of a lookup, without where it lies in memory
abbrev pub sent_part_of : NamedPart → SentPart
sent_part_of p = record { flag = option_map meant_of p.flag; message = sent_of p.message }

-- messages in one column: where they begin, on which bus, and whether at most one counts on a row
pub record Column : Type 0 where
  pub at : ℕ
  pub bus : Option Span
  pub exclusive : Bool
  pub parts : List SentPart

-- a lookup, without where it lies in memory
abbrev pub column_of : NamedLookup → Column
column_of l = record { at = l.at; bus = l.bus; exclusive = l.exclusive; parts = map sent_part_of l.parts.items }

-- an expression that has to be zero on every row, and where its item begins
pub record Constraint : Type 0 where
  pub at : ℕ
  pub value : Meant

-- a constraint, without where it lies in memory
abbrev pub constraint_of : NamedConstraint → Constraint
constraint_of c = record { at = c.at; value = meant_of c.value }

-- a name that has no definition yet
abbrev pub new_name : NamesInScope → Span → Result (Unit {0}) NameRefusal
new_name names s = if is_some (definition (bytes_in s names.text) names.defined) then refusal_of_name RepeatedDefinition s.start else Ok tt

-- a definition of a name that has none yet
abbrev pub defined_by : NamesInScope → Span → Formula → ℕ → Result (InRoom (List ℕ × Meant)) NameRefusal
defined_by names s f room = new_name names s >>= λ _. meaning names f room >>= λ x. Ok ((bytes_in s names.text, x.0), x.1)

-- what a message sends, on a bus that takes it
abbrev pub message_on : List Section → NamesInScope → Message → ℕ → Result (InRoom Sent) NameRefusal
message_on sections names m room = bus_checked names.text (buses_of sections) m.bus (length m.tuple) >>= λ _. meant_message names m room

-- what the flag of a message means, if it has one
abbrev pub flag_meant : NamesInScope → Option Formula → ℕ → Result (InRoom (Option Meant)) NameRefusal
flag_meant names None room = Ok (None, room)
flag_meant names (Some f) room = meaning names f room >>= λ x. Ok (Some x.0, x.1)

-- a message is on the bus of its group
abbrev pub bus_kept : NamesInScope → Option Span → Message → Result (Unit {0}) NameRefusal
bus_kept names bus m = if same_bus names.text bus m.bus then Ok tt else refusal_of_name OtherBus m.at

-- a message of a group on this bus; the flag leaves room for the message
unfoldable pub part_on : List Section → NamesInScope → Option Span → Part → ℕ → Result (InRoom SentPart) NameRefusal
part_on sections names bus p room = do
  flag ← flag_meant names p.flag room
  kept ← bus_kept names bus p.message
  message ← message_on sections names p.message flag.1
  Ok (record { flag = flag.0; message = message.0 }, message.1)

-- the messages of a group on this bus, each in the room that those before it leave
abbrev pub parts_on : List Section → NamesInScope → Option Span → List Part → ℕ → Result (InRoom (List SentPart)) NameRefusal
parts_on sections names bus [] room = Ok ([], room)
parts_on sections names bus (p ∷ ps) room = part_on sections names bus p room >>= λ x. parts_on sections names bus ps x.1 >>= λ xs. Ok (x.0 ∷ xs.0, xs.1)

-- the lookup of a message alone
unfoldable pub column_alone : List Section → NamesInScope → Message → ℕ → Result (InRoom Column) NameRefusal
column_alone sections names m room = message_on sections names m room >>= λ x. Ok (record { at = m.at; bus = m.bus; exclusive = false; parts = record { flag = None; message = x.0 } ∷ [] }, x.1)

-- the lookup of a group, on the bus of its first message
unfoldable pub column_together : List Section → NamesInScope → ℕ → Bool → List Part → ℕ → Result (InRoom Column) NameRefusal
column_together sections names at exclusive [] room = refusal_of_name EmptyGroup at
column_together sections names at exclusive (p ∷ ps) room = parts_on sections names p.message.bus (p ∷ ps) room >>= λ xs. Ok (record { at = at; bus = p.message.bus; exclusive = exclusive; parts = xs.0 }, xs.1)

-- what an item adds: nothing, a definition, a public value with its definition, a constraint, or a lookup
pub data Addition : Type 0 where
  nothing : Addition
  defines : List ℕ × Meant → Addition
  publishes : List ℕ × Meant → ℕ → Addition
  constrains : Constraint → Addition
  sends : Column → Addition

-- what an item adds, without where it lies in memory
abbrev pub addition_of : Added → Addition
addition_of added.Nothing = nothing
addition_of (added.Definition d) = defines (defined_of d)
addition_of (added.Public d n) = publishes (defined_of d) n
addition_of (added.Constraint c) = constrains (constraint_of c)
addition_of (added.Lookup l) = sends (column_of l)

-- a constraint that begins here, with this formula
abbrev pub constraint_at : NamesInScope → ℕ → Formula → ℕ → Result (InRoom Constraint) NameRefusal
constraint_at names at f room = meaning names f room >>= λ x. Ok (record { at = at; value = x.0 }, x.1)

-- what an item that begins here adds, after so many public values
unfoldable pub addition_at : List Section → NamesInScope → ℕ → ℕ → Item → ℕ → Result (InRoom Addition) NameRefusal
addition_at sections names publics at (items.trace s) room = Ok (nothing, room)
addition_at sections names publics at (items.preprocessed s) room = Ok (nothing, room)
addition_at sections names publics at (items.lookups s) room = refusal_of_name LookupsFile at
addition_at sections names publics at (items.height n) room = Ok (nothing, room)
addition_at sections names publics at (items.columns ss) room = Ok (nothing, room)
addition_at sections names publics at (items.public s n) room = new_name names s >>= λ _. Ok (publishes (bytes_in s names.text, values.public publics) n, room)
addition_at sections names publics at (items.letting s f) room = defined_by names s f room >>= λ d. Ok (defines d.0, d.1)
addition_at sections names publics at (items.asserted f) room = constraint_at names at f room >>= λ c. Ok (constrains c.0, c.1)
addition_at sections names publics at (items.asserted_bool f) room = constraint_at names at (boolean_of f) room >>= λ c. Ok (constrains c.0, c.1)
addition_at sections names publics at (items.message m) room = column_alone sections names m room >>= λ c. Ok (sends c.0, c.1)
addition_at sections names publics at (items.together ps) room = column_together sections names at false ps room >>= λ c. Ok (sends c.0, c.1)
addition_at sections names publics at (items.exclusive ps) room = column_together sections names at true ps room >>= λ c. Ok (sends c.0, c.1)

-- what an item adds, after so many public values
abbrev pub addition : List Section → NamesInScope → ℕ → Placed → ℕ → Result (InRoom Addition) NameRefusal
addition sections names publics p room = addition_at sections names publics p.at p.item room

-- the lookups, the public values and the constraints of an AIR, and the room that its expressions leave
pub record Said : Type 0 where
  pub columns : List Column
  pub public_values : List ℕ
  pub constraints : List Constraint
  pub room : ℕ

-- what an AIR says, without where it lies in memory
abbrev pub said_of : NamedAir → Said
said_of a = record { columns = map column_of a.lookups.items; public_values = a.public_values.items; constraints = map constraint_of a.constraints.items; room = a.room }

-- nothing said, and so much room left
abbrev pub silence : ℕ → Said
silence room = record { columns = []; public_values = []; constraints = []; room = room }

-- what is said with an addition before it
abbrev pub said_after : Addition → Said → Said
said_after nothing said = said
said_after (defines d) said = said
said_after (publishes d n) said = record said { public_values = n ∷ said.public_values }
said_after (constrains c) said = record said { constraints = c ∷ said.constraints }
said_after (sends c) said = record said { columns = c ∷ said.columns }

-- names after an addition
abbrev pub names_after : Addition → NamesInScope → NamesInScope
names_after nothing names = names
names_after (defines d) names = with_definition names d
names_after (publishes d n) names = with_definition names d
names_after (constrains c) names = names
names_after (sends c) names = names

-- how many public values there are after an addition
abbrev pub publics_after : Addition → ℕ → ℕ
publics_after (publishes d n) publics = publics + 1
publics_after a publics = publics

-- What items say: each adds to what is known in the items after it, and leaves room for their expressions. They are read after so many public values.
abbrev pub said_by_items : List Section → NamesInScope → ℕ → List Placed → ℕ → Result Said NameRefusal
said_by_items sections names publics [] room = Ok (silence room)
said_by_items sections names publics (p ∷ ps) room = addition sections names publics p room >>= λ a. said_by_items sections (names_after a.0 names) (publics_after a.0 publics) ps a.1 >>= λ said. Ok (said_after a.0 said)
