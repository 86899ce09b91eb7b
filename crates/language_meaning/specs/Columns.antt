-- Lookups of names as lookups over elements that numbers stand for.
use Rattle.std.specs.Prelude.{◌≡◌, ◌⊎◌, ◌+◌, ◌^◌, ◌<◌, ◌≤◌, ℕ, All, Bool, true, false, List, [], ◌∷◌, Option, Some, None, map, max, option_map, if◌then◌else◌}
use Rattle.std.specs.Option.{ForSome}
use Rattle.std.specs.Str.{IsUtf8}
use Rattle.air_expressions.specs.Faults.{HasFirstFault}
use Rattle.air_expressions.specs.Tree.{Tree}
use Rattle.lookup_model.specs.Outline.{Outline}
use Rattle.language.specs.declared.token.Span.{Span}
use Rattle.language_meaning.specs.Lookups.{Column, Constraint, SentPart}
use Rattle.language_meaning.specs.Scopes.{bytes_in}
use Rattle.language_meaning.specs.Values.{Meant, number}
use Rattle.language_meaning.specs.declared.element_fault.ElementRefusal.{ElementRefusal}
use Rattle.language_meaning.specs.declared.element_fault.ElementWhy.TheVariants.{BusName, Weight}
use Rattle.language_meaning.specs.Expressions.{tree_in}

-- the greatest weight of some messages
abbrev pub greatest_weight : List SentPart → ℕ
greatest_weight [] = 0
greatest_weight (p ∷ ps) = max p.message.weight (greatest_weight ps)

-- the sum of the weights of some messages
abbrev pub sum_of_weights : List SentPart → ℕ
sum_of_weights [] = 0
sum_of_weights (p ∷ ps) = p.message.weight + sum_of_weights ps

-- the weight of a lookup
abbrev pub weight_in : Column → ℕ
weight_in c = if c.exclusive then greatest_weight c.parts else sum_of_weights c.parts

-- a flag, one where there is none
abbrev pub flag_or_one : Option Meant → Meant
flag_or_one None = number 1
flag_or_one (Some m) = m

module _ {F : Type 0} (element : ℕ → F) where
  -- the flags of messages, in an exclusive lookup
  abbrev pub flags_in : Bool → List SentPart → Option (List (Tree F))
  flags_in true ps = Some (map (λ p. tree_in element (flag_or_one p.flag)) ps)
  flags_in false ps = None

  -- a lookup in this column
  abbrev pub outline_in : List ℕ → ℕ → Column → Outline (Tree F)
  outline_in text column c = record {
    bus = option_map (λ s. bytes_in s text) c.bus;
    elements = map (λ p. map (tree_in element) p.message.tuple) c.parts;
    multiplicities = map (λ p. tree_in element p.message.count) c.parts;
    count_weight = weight_in c;
    column = column;
    flags = flags_in c.exclusive c.parts;
  }

  -- lookups in columns from this one on
  abbrev pub outlines_in : List ℕ → ℕ → List Column → List (Outline (Tree F))
  outlines_in text column [] = []
  outlines_in text column (c ∷ cs) = outline_in text column c ∷ outlines_in text (column + 1) cs

  -- the trees of constraints
  abbrev pub constraints_in : List Constraint → List (Tree F)
  constraints_in constraints = map (λ c. tree_in element c.value) constraints

-- the name of the bus is UTF-8
abbrev pub IsNamed : List ℕ → Option Span → Type 0
IsNamed text bus = ForSome bus (λ s. IsUtf8 (bytes_in s text))

-- a lookup that can be made: its bus has such a name, and its weight fits
pub record IsMade (text : List ℕ) (c : Column) : Type 0 where
  pub named : IsNamed text c.bus
  pub light : weight_in c < 2 ^ 64

-- the name of the bus is not UTF-8
abbrev pub IsNameRefusal : List ℕ → Option Span → ElementRefusal → Type 0
IsNameRefusal text bus e = (s : Span) × (bus ≡ Some s) × (¬ IsUtf8 (bytes_in s text)) × (e ≡ record { at = s.start; why = BusName })

-- why a lookup cannot be made: the name of its bus, or else its weight
abbrev pub IsColumnRefusal : List ℕ → Column → ElementRefusal → Type 0
IsColumnRefusal text c e = IsNameRefusal text c.bus e ⊎ (IsNamed text c.bus × (2 ^ 64 ≤ weight_in c) × (e ≡ record { at = c.at; why = Weight }))

-- why the first lookup that cannot be made cannot
abbrev pub IsFirstColumnRefusal : List ℕ → List Column → ElementRefusal → Type 0
IsFirstColumnRefusal text cs e = HasFirstFault (IsMade text) (λ index c. IsColumnRefusal text c e) cs
