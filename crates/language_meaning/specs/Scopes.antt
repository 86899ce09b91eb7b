-- What names stand for, and what formulas mean with them.
use Rattle.std.specs.Prelude.{◌&&◌, ◌++◌, ◌-◌, ℕ, List, [], ◌∷◌, Option, Some, None, Result, Ok, codes, drop, length, map, nat_le, position, slice_range, take, if◌then◌else◌}
use Rattle.std.specs.Str.{bytes_eq}
use Rattle.std.specs.declared.alloc.Global.{Global}
use Rattle.std.specs.declared.vec.Vec.{Vec}
use Rattle.language.specs.declared.token.Span.{Span}
use Rattle.language.specs.Formulas.{Formula, name, next, number, negative, sum, difference, product, power}
use Rattle.language_meaning.specs.declared.name_fault.NameRefusal.{NameRefusal}
use Rattle.language_meaning.specs.declared.name_fault.NameWhy.TheVariants.{UnknownName, UnknownColumn, LargeExpression, DeepExpression}
use Rattle.language_meaning.specs.declared.scope.Defined.{Defined}
use Rattle.language_meaning.specs.declared.scope.Scope.{Scope}
use Rattle.language_meaning.specs.Faults.{◌>>=◌, value_or_name_refusal, refusal_of_name}
use Rattle.language_meaning.specs.Room.{InRoom}
use Rattle.language_meaning.specs.Values.{Meant, layers_of, meant_of, powers, node_count_of}
use Rattle.language_meaning.specs.Values as values

-- the text that names stand in, the names of columns, and the definitions
pub record NamesInScope : Type 0 where
  pub text : List ℕ
  pub columns : List (List ℕ)
  pub preprocessed : List (List ℕ)
  pub defined : List (List ℕ × Meant)

-- a definition: its name, and what it means
abbrev pub defined_of : Defined → List ℕ × Meant
defined_of d = (d.name.items, meant_of d.value)

-- what names stand for in a scope
abbrev pub names_of : Scope → NamesInScope
names_of scope = record {
  text = scope.text.now;
  columns = map (λ column. column.items) scope.columns.now;
  preprocessed = map (λ column. column.items) scope.preprocessed.now;
  defined = map defined_of scope.defined.now;
}

-- the names of columns before any definition
abbrev pub names_for : List ℕ → List (Vec ℕ Global) → List (Vec ℕ Global) → NamesInScope
names_for text columns fixed = record { text = text; columns = map (λ column. column.items) columns; preprocessed = map (λ column. column.items) fixed; defined = [] }

-- names with one more definition, after those before it
abbrev pub with_definition : NamesInScope → List ℕ × Meant → NamesInScope
with_definition names d = record { text = names.text; columns = names.columns; preprocessed = names.preprocessed; defined = names.defined ++ d ∷ [] }

-- the bytes of a span, none where it is not within the text
abbrev pub bytes_in : Span → List ℕ → List ℕ
bytes_in span text = if nat_le span.start span.end && nat_le span.end (length text) then slice_range text span.start span.end else []

-- what the first definition of a name means
abbrev pub definition : List ℕ → List (List ℕ × Meant) → Option Meant
definition bytes [] = None
definition bytes (d ∷ ds) = if bytes_eq d.0 bytes then Some d.1 else definition bytes ds

-- the selector of this name
unfoldable pub selector_of : List ℕ → Option Meant
selector_of bytes =
    if bytes_eq bytes (codes "is_first_row") then Some values.first_row
    else if bytes_eq bytes (codes "is_last_row") then Some values.last_row
    else if bytes_eq bytes (codes "is_transition") then Some values.transition
    else None

-- what stands behind `pre.`, if a name begins so
abbrev pub fixed_name : List ℕ → Option (List ℕ)
fixed_name bytes = if nat_le 4 (length bytes) && bytes_eq (take 4 bytes) (codes "pre.") then Some (drop 4 bytes) else None

-- the number of the first column with a name
abbrev pub column_number_of : List ℕ → List (List ℕ) → Option ℕ
column_number_of bytes columns = position (λ column. bytes_eq column bytes) columns

-- the cell of a column, if there is one
abbrev pub cell_in : (ℕ → Meant) → Option ℕ → Option Meant
cell_in make None = None
cell_in make (Some column) = Some (make column)

-- the cell of the column with a name, of the preprocessed trace if it has `pre.` before it
abbrev pub cell_by : NamesInScope → List ℕ → ℕ → Option (List ℕ) → Option Meant
cell_by names bytes offset (Some fixed) = cell_in (values.preprocessed offset) (column_number_of fixed names.preprocessed)
cell_by names bytes offset None = cell_in (values.main offset) (column_number_of bytes names.columns)

-- the cell of the column with a name, in the current row at offset 0 and the next one at 1
unfoldable pub cell_of : NamesInScope → List ℕ → ℕ → Option Meant
cell_of names bytes offset = cell_by names bytes offset (fixed_name bytes)

-- the first of two that is there
abbrev pub or_else : Option Meant → Option Meant → Option Meant
or_else None other = other
or_else (Some m) other = Some m

-- what a name stands for: a definition, a selector or a cell of the current row
unfoldable pub meaning_of_name : NamesInScope → Span → Result Meant NameRefusal
meaning_of_name names span = let bytes = bytes_in span names.text in value_or_name_refusal UnknownName span.start (or_else (definition bytes names.defined) (or_else (selector_of bytes) (cell_of names bytes 0)))

-- what the name of a column stands for in the next row
unfoldable pub next_named : NamesInScope → Span → Result Meant NameRefusal
next_named names span = value_or_name_refusal UnknownColumn span.start (cell_of names (bytes_in span names.text) 1)

-- a value in room for so many nodes
abbrev pub value_in_room : ℕ → ℕ → Meant → Result (InRoom Meant) NameRefusal
value_in_room at room m = if nat_le (node_count_of m) room then Ok (m, room - node_count_of m) else refusal_of_name LargeExpression at

-- what a name stands for, in room for so many nodes
abbrev pub named_in : NamesInScope → Span → ℕ → Result (InRoom Meant) NameRefusal
named_in names span room = meaning_of_name names span >>= λ m. value_in_room span.start room m

-- where the first name or number of a formula begins
abbrev pub front_of : Formula → ℕ
front_of (name s) = s.start
front_of (next s) = s.start
front_of (number n s) = s.start
front_of (negative f) = front_of f
front_of (sum f g) = front_of f
front_of (difference f g) = front_of f
front_of (product f g) = front_of f
front_of (power f n) = front_of f

-- what a formula means, in room for so many nodes: each part leaves room for the next
abbrev pub meaning_in : NamesInScope → Formula → ℕ → Result (InRoom Meant) NameRefusal
meaning_in names (name s) room = named_in names s room
meaning_in names (next s) room = next_named names s >>= λ m. value_in_room s.start room m
meaning_in names (number n s) room = value_in_room s.start room (values.number n)
meaning_in names (negative f) room = meaning_in names f (room - 1) >>= λ x. Ok (values.negative x.0, x.1)
meaning_in names (sum f g) room = meaning_in names f (room - 1) >>= λ x. meaning_in names g x.1 >>= λ y. Ok (values.sum x.0 y.0, y.1)
meaning_in names (difference f g) room = meaning_in names f (room - 1) >>= λ x. meaning_in names g x.1 >>= λ y. Ok (values.difference x.0 y.0, y.1)
meaning_in names (product f g) room = meaning_in names f (room - 1) >>= λ x. meaning_in names g x.1 >>= λ y. Ok (values.product x.0 y.0, y.1)
meaning_in names (power f n) room = meaning_in names f room >>= λ x. value_in_room (front_of f) room (powers (n - 1) x.0)

-- a value of at most 1,024 layers
abbrev pub value_within_layers : ℕ → InRoom Meant → Result (InRoom Meant) NameRefusal
value_within_layers at x = if nat_le (layers_of x.0) 1024 then Ok x else refusal_of_name DeepExpression at

-- a formula times itself less one, where the number stands at the front of the formula
abbrev pub boolean_of : Formula → Formula
boolean_of f = product f (difference f (number 1 (record { start = front_of f; end = front_of f })))

-- what a formula means, in at most 1,024 layers and in room for so many nodes
abbrev pub meaning : NamesInScope → Formula → ℕ → Result (InRoom Meant) NameRefusal
meaning names f room = meaning_in names f room >>= λ x. value_within_layers (front_of f) x
