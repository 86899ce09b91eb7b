-- The items of an AIR, from their tokens.
use Rattle.std.specs.Prelude.{ℕ, Bool, true, false, List, [], ◌∷◌, Option, Some, None, Result, Ok, drop, length, map, option_map}
use Rattle.language.specs.declared.fault.Fault.{Fault}
use Rattle.language.specs.declared.fault.Why.TheVariants as whys
use Rattle.language.specs.declared.item.ItemText.{ItemText}
use Rattle.language.specs.declared.item.ItemText.TheVariants as texts
use Rattle.language.specs.declared.item.PartText.{PartText}
use Rattle.language.specs.declared.item.PlacedItem.{PlacedItem}
use Rattle.language.specs.declared.token.Span.{Span}
use Rattle.language.specs.declared.token.Word.{Word}
use Rattle.language.specs.declared.token.Word.TheVariants as words
use Rattle.language.specs.Faults.{◌>>=◌}
use Rattle.language.specs.Formulas.{Formula, formula_of}
use Rattle.language.specs.Fronts.{Read, after_lines, at_front, line_needed, named_at, rest_after_sign, number_at, quoted_at, fault_at_front, rest_if_sign, word_at}
use Rattle.language.specs.Lists.{many, with_front}
use Rattle.language.specs.Messages.{Message, message_at, message_of}
use Rattle.language.specs.Reading.{formula_at}
use Rattle.language.specs.Tokens.{Token}

-- a message of a group, in an exclusive group with its flag
pub record Part : Type 0 where
  pub flag : Option Formula
  pub message : Message

-- a message of a group, without where it lies in memory
abbrev pub group_part_of : PartText → Part
group_part_of p = record { flag = option_map formula_of p.flag; message = message_of p.message }

-- an item of an AIR
pub data Item : Type 0 where
  trace : Span → Item
  preprocessed : Span → Item
  lookups : Span → Item
  height : ℕ → Item
  columns : List Span → Item
  public : Span → ℕ → Item
  letting : Span → Formula → Item
  asserted : Formula → Item
  asserted_bool : Formula → Item
  message : Message → Item
  together : List Part → Item
  exclusive : List Part → Item

-- an item, without where it lies in memory
abbrev pub item_of : ItemText → Item
item_of (texts.Trace s) = trace s
item_of (texts.Preprocessed s) = preprocessed s
item_of (texts.Lookups s) = lookups s
item_of (texts.Height n) = height n
item_of (texts.Columns v) = columns v.items
item_of (texts.Public s n) = public s n
item_of (texts.Let s t) = letting s (formula_of t)
item_of (texts.Assert t) = asserted (formula_of t)
item_of (texts.AssertBool t) = asserted_bool (formula_of t)
item_of (texts.Message m) = message (message_of m)
item_of (texts.Together v) = together (map group_part_of v.items)
item_of (texts.Exclusive v) = exclusive (map group_part_of v.items)

-- an item, and where it begins
pub record Placed : Type 0 where
  pub at : ℕ
  pub item : Item

-- an item and its place, without where it lies in memory
abbrev pub placed_of : PlacedItem → Placed
placed_of p = record { at = p.at; item = item_of p.item }

-- a name behind a comma, or the end at a parenthesis
abbrev pub name_in : List Token → Option (List Token) → Read (Option Span)
name_in ts None = rest_after_sign 41 ts >>= λ rest. Ok (None, rest)
name_in ts (Some us) = named_at whys.Name us >>= λ x. Ok (Some x.0, x.1)

-- one more name, or the end of the names
unfoldable pub more_name : List Token → Read (Option Span)
more_name ts = name_in ts (rest_if_sign 44 ts)

-- names between commas, up to a parenthesis
unfoldable pub names_at : List Token → Read (List Span)
names_at ts = named_at whys.Name ts >>= λ x. with_front (x.0 ∷ []) (many more_name (length x.1) x.1)

-- the tokens after `when`
abbrev pub when_in : Word → List Token → Result (List Token) Fault
when_in words.When ts = Ok (drop 1 ts)
when_in w ts = fault_at_front whys.When ts

-- the tokens after `when`, which has to be there
unfoldable pub when_needed : List Token → Result (List Token) Fault
when_needed ts = when_in (word_at ts) ts

-- the flag of a message in an exclusive group, and none in others
unfoldable pub flag_at : Bool → List Token → Read (Option Formula)
flag_at true ts = when_needed ts >>= λ us. formula_at us >>= λ x. Ok (Some x.0, x.1)
flag_at false ts = Ok (None, ts)

-- a message of a group
unfoldable pub part_at : Bool → List Token → Read Part
part_at flagged ts = do
  flag ← flag_at flagged ts
  m ← message_at flag.1
  Ok (record { flag = flag.0; message = m.0 }, m.1)

-- a message of a group on its line, or the end at a brace
abbrev pub part_in : Bool → List Token → Option (List Token) → Read (Option Part)
part_in flagged ts (Some us) = Ok (None, us)
part_in flagged ts None = part_at flagged ts >>= λ x. line_needed x.1 >>= λ rest. Ok (Some x.0, rest)

-- one more message of a group, or its end
unfoldable pub more_part : Bool → List Token → Read (Option Part)
more_part flagged ts = part_in flagged (after_lines ts) (rest_if_sign 125 (after_lines ts))

-- the messages of a group, in braces
unfoldable pub parts_at : Bool → List Token → Read (List Part)
parts_at flagged ts = rest_after_sign 123 ts >>= λ us. many (more_part flagged) (length us) us

-- a public value, behind its name
unfoldable pub public_at : List Token → Read Item
public_at ts = do
  name ← named_at whys.Name ts
  us ← rest_after_sign 61 name.1
  value ← number_at us
  Ok (public name.0 value.0, value.1)

-- an expression, behind its name
unfoldable pub let_at : List Token → Read Item
let_at ts = do
  name ← named_at whys.Name ts
  us ← rest_after_sign 61 name.1
  value ← formula_at us
  Ok (letting name.0 value.0, value.1)

-- an expression that has to be zero on every row, or behind `bool` one that has to be 0 or 1
abbrev pub assertion_in : Word → List Token → Read Item
assertion_in words.Bool ts = formula_at (drop 1 ts) >>= λ x. Ok (asserted_bool x.0, x.1)
assertion_in w ts = formula_at ts >>= λ x. Ok (asserted x.0, x.1)

-- what stands behind `assert`
unfoldable pub assertion_at : List Token → Read Item
assertion_at ts = assertion_in (word_at ts) ts

-- an item that is no message, by its first word
unfoldable pub declaration_in : Word → List Token → Read Item
declaration_in words.Trace ts = quoted_at (drop 1 ts) >>= λ x. Ok (trace x.0, x.1)
declaration_in words.Preprocessed ts = quoted_at (drop 1 ts) >>= λ x. Ok (preprocessed x.0, x.1)
declaration_in words.Lookups ts = quoted_at (drop 1 ts) >>= λ x. Ok (lookups x.0, x.1)
declaration_in words.Height ts = number_at (drop 1 ts) >>= λ x. Ok (height x.0, x.1)
declaration_in words.Columns ts = rest_after_sign 40 (drop 1 ts) >>= λ us. names_at us >>= λ x. Ok (columns x.0, x.1)
declaration_in words.Public ts = public_at (drop 1 ts)
declaration_in words.Let ts = let_at (drop 1 ts)
declaration_in words.Assert ts = assertion_at (drop 1 ts)
declaration_in w ts = fault_at_front whys.Item ts

-- a message as an item
abbrev pub message_item : List Token → Read Item
message_item ts = message_at ts >>= λ x. Ok (message x.0, x.1)

-- an item, by its first word
unfoldable pub item_in : Word → List Token → Read Item
item_in words.Query ts = message_item ts
item_in words.Provide ts = message_item ts
item_in words.Send ts = message_item ts
item_in words.Receive ts = message_item ts
item_in words.Together ts = parts_at false (drop 1 ts) >>= λ x. Ok (together x.0, x.1)
item_in words.Exclusive ts = parts_at true (drop 1 ts) >>= λ x. Ok (exclusive x.0, x.1)
item_in w ts = declaration_in w ts

-- the item at the front
unfoldable pub item_at : List Token → Read Placed
item_at ts = item_in (word_at ts) ts >>= λ x. Ok (record { at = at_front ts; item = x.0 }, x.1)
