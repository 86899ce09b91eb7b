-- What a lookup sends on a row.
use Rattle.std.specs.Prelude.{ℕ, Bool, List, Option, None, Some, map}
use Rattle.std.specs.List.{filter, zip}
use Rattle.std.specs.Option.{option_map}
use Rattle.field.specs.Ring.{Ring}
use Rattle.air_expressions.specs.declared.base_expression.SymbolicExpression.{SymbolicExpression}
use Rattle.air_expressions.specs.Meaning.{value_of}
use Rattle.air_expressions.specs.Tree.{tree_of}
use Rattle.air_expressions.specs.Window.{Window}
use Rattle.lookup_model.specs.Message.{Message}
use Rattle.lookup_model.specs.declared.types.Lookup.{Lookup}

-- the messages of a row and, if the lookup is exclusive, the values of its flags
pub record Sent (F : Type 0) : Type 0 where
  pub flags : Option (List F)
  pub messages : List (Message F)

-- the value of an expression at a window
abbrev pub value : {F : Type 0} → Ring F → Window F → SymbolicExpression F → F
value R w e = value_of R w (tree_of e)

-- the values of a list of expressions
abbrev pub values : {F : Type 0} → Ring F → Window F → List (SymbolicExpression F) → List F
values R w es = map (value R w) es

-- the branches whose flag is set
abbrev pub chosen_branches : {F X : Type 0} → Ring F → (F → F → Bool) → List F → List X → List X
chosen_branches R eq flags branches = map (λ b. b.1) (filter (λ b. eq b.0 R.one) (zip flags branches))

-- What a row sends of its branches: all of them without flags, and with flags those whose flag is
-- set.
abbrev pub sent : {F : Type 0} → Ring F → (F → F → Bool) → Option (List F) → List (Message F) → Sent F
sent R eq None branches = record { flags = None; messages = branches }
sent R eq (Some flags) branches = record { flags = Some flags; messages = chosen_branches R eq flags branches }

module _ {F : Type 0} (R : Ring F) where
  -- a tuple with its multiplicity at a window, under an id
  abbrev pub branch_at : Window F → ℕ → List (SymbolicExpression F) → SymbolicExpression F → Message F
  branch_at w id tuple multiplicity = record { key = record { id = id; tuple = values R w tuple }; multiplicity = value R w multiplicity }

  -- every tuple of a lookup with its multiplicity
  abbrev pub branches_at : Window F → ℕ → Lookup F → List (Message F)
  branches_at w id lookup = map (λ b. branch_at w id b.0.items b.1) (zip lookup.elements.items lookup.multiplicities.items)

  -- the values of the flags of an exclusive lookup
  abbrev pub flags_at : Window F → Lookup F → Option (List F)
  flags_at w lookup = option_map (λ flags. values R w flags.items) lookup.flags

  -- what a lookup sends at a window, under an id
  abbrev pub sent_at : (F → F → Bool) → Window F → ℕ → Lookup F → Sent F
  sent_at eq w id lookup = sent R eq (flags_at w lookup) (branches_at w id lookup)
