-- Whole texts: buses and AIRs.
use Rattle.std.specs.Prelude.{ℕ, List, Option, Some, None, Result, Ok, drop, length, map, if◌then◌else◌}
use Rattle.language.specs.declared.batch.AirText.{AirText}
use Rattle.language.specs.declared.batch.BatchText.{BatchText}
use Rattle.language.specs.declared.batch.BusText.{BusText}
use Rattle.language.specs.declared.batch.SectionText.{SectionText}
use Rattle.language.specs.declared.batch.SectionText.TheVariants as texts
use Rattle.language.specs.declared.fault.Fault.{Fault}
use Rattle.language.specs.declared.fault.Why.TheVariants as whys
use Rattle.language.specs.declared.token.Span.{Span}
use Rattle.language.specs.declared.token.Word.{Word}
use Rattle.language.specs.declared.token.Word.TheVariants as words
use Rattle.language.specs.Faults.{◌>>=◌}
use Rattle.language.specs.Fronts.{Read, after_lines, is_end, line_needed, named_at, rest_after_sign, fault_at_front, rest_if_sign, word_at}
use Rattle.language.specs.Items.{Placed, item_at, names_at, placed_of}
use Rattle.language.specs.Lists.{many}
use Rattle.language.specs.Tokens.{Token, tokens_of}

-- a bus: its name, and the names of what its messages carry
pub record Bus : Type 0 where
  pub name : Span
  pub fields : List Span

-- an AIR: its name, and its items
pub record Air : Type 0 where
  pub name : Span
  pub items : List Placed

-- a bus or an AIR
pub data Section : Type 0 where
  bus : Bus → Section
  air : Air → Section

-- a bus, without where it lies in memory
abbrev pub bus_section_of : BusText → Bus
bus_section_of b = record { name = b.name; fields = b.fields.items }

-- an AIR, without where it lies in memory
abbrev pub air_of : AirText → Air
air_of a = record { name = a.name; items = map placed_of a.items.items }

-- a bus or an AIR, without where it lies in memory
abbrev pub section_of : SectionText → Section
section_of (texts.Bus b) = bus (bus_section_of b)
section_of (texts.Air a) = air (air_of a)

-- a batch, without where it lies in memory
abbrev pub batch_of : BatchText → List Section
batch_of b = map section_of b.sections.items

-- a bus, behind its first word
unfoldable pub bus_section_at : List Token → Read Bus
bus_section_at ts = do
  name ← named_at whys.Name ts
  us ← rest_after_sign 40 name.1
  fields ← names_at us
  Ok (record { name = name.0; fields = fields.0 }, fields.1)

-- an item on its line, or the end at a brace
abbrev pub item_for : List Token → Option (List Token) → Read (Option Placed)
item_for ts (Some us) = Ok (None, us)
item_for ts None = item_at ts >>= λ x. line_needed x.1 >>= λ rest. Ok (Some x.0, rest)

-- one more item of an AIR, or its end
unfoldable pub more_item : List Token → Read (Option Placed)
more_item ts = item_for (after_lines ts) (rest_if_sign 125 (after_lines ts))

-- an AIR, behind its first word
unfoldable pub air_at : List Token → Read Air
air_at ts = do
  name ← named_at whys.Name ts
  us ← rest_after_sign 123 name.1
  items ← many more_item (length us) us
  Ok (record { name = name.0; items = items.0 }, items.1)

-- a bus or an AIR, by its first word
abbrev pub section_in : Word → List Token → Read Section
section_in words.Bus ts = bus_section_at (drop 1 ts) >>= λ x. Ok (bus x.0, x.1)
section_in words.Air ts = air_at (drop 1 ts) >>= λ x. Ok (air x.0, x.1)
section_in w ts = fault_at_front whys.Section ts

-- the bus or AIR at the front
unfoldable pub section_at : List Token → Read Section
section_at ts = section_in (word_at ts) ts

-- a bus or an AIR on its lines, or the end of the text
abbrev pub section_for : List Token → Read (Option Section)
section_for ts = if is_end ts then Ok (None, ts) else section_at ts >>= λ x. line_needed x.1 >>= λ rest. Ok (Some x.0, rest)

-- one more bus or AIR, or the end of the text
unfoldable pub more_section : List Token → Read (Option Section)
more_section ts = section_for (after_lines ts)

-- the buses and AIRs of a text, in their order
unfoldable pub batch_at : List ℕ → Result (List Section) Fault
batch_at text = do
  ts ← tokens_of text
  sections ← many more_section (length ts) ts
  Ok sections.0
