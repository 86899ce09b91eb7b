-- What contracts see of a lookup: texts as bytes, vectors as lists.
use Rattle.std.specs.Prelude.{ℕ, List, Option, Some, None, map, option_map}
use Rattle.std.specs.String.{string_bytes}
use Rattle.air_expressions.specs.Tree.{Tree, tree_of}
use Rattle.air_expressions.specs.declared.base_expression.SymbolicExpression.{SymbolicExpression}
use Rattle.lookup_model.specs.declared.types.Kind.{Kind}
use Rattle.lookup_model.specs.declared.types.Kind.TheVariants.{Local, Global}
use Rattle.lookup_model.specs.declared.types.Lookup.{Lookup}

-- the name of the bus that a lookup is sent on, unless it is local
abbrev pub bus_of : Kind → Option (List ℕ)
bus_of Local = None
bus_of (Global name) = Some (string_bytes name)

-- the fields of a lookup, with any type in place of its expressions
pub record Outline (E : Type 0) : Type 0 where
  pub bus : Option (List ℕ)
  pub elements : List (List E)
  pub multiplicities : List E
  pub count_weight : ℕ
  pub column : ℕ
  pub flags : Option (List E)

-- the fields of this lookup, with its expressions
abbrev pub fields_of : {F : Type 0} → Lookup F → Outline (SymbolicExpression F)
fields_of lookup = record {
  bus = bus_of lookup.kind;
  elements = map (λ tuple. tuple.items) lookup.elements.items;
  multiplicities = lookup.multiplicities.items;
  count_weight = lookup.count_weight;
  column = lookup.column;
  flags = option_map (λ flags. flags.items) lookup.flags;
}

-- the fields of this lookup, with the trees of its expressions
abbrev pub outline_of : {F : Type 0} → Lookup F → Outline (Tree F)
outline_of lookup = record {
  bus = bus_of lookup.kind;
  elements = map (λ tuple. map tree_of tuple.items) lookup.elements.items;
  multiplicities = map tree_of lookup.multiplicities.items;
  count_weight = lookup.count_weight;
  column = lookup.column;
  flags = option_map (λ flags. map tree_of flags.items) lookup.flags;
}
