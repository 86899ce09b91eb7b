-- Lookups by the bus that they are sent on.
use Rattle.std.specs.Prelude.{ℕ, List, map}
use Rattle.std.specs.Borrow.{Bor}
use Rattle.std.specs.List.{filter, filter_map}
use Rattle.std.specs.declared.alloc.Global.{Global}
use Rattle.std.specs.declared.vec.Vec.{Vec}
use Rattle.air_expressions.specs.declared.base_expression.SymbolicExpression.{SymbolicExpression}
use Rattle.lookup_model.specs.Names.{is_named, same_name}
use Rattle.lookup_model.specs.Net.{first_seen}
use Rattle.lookup_model.specs.Outline.{Outline, fields_of}
use Rattle.lookup_model.specs.declared.types.Lookup.{Lookup}

module _ {E : Type 0} where
  -- the names of the buses of these lookups, each once, in the order in which they are first seen
  abbrev pub bus_names : List (Outline E) → List (List ℕ)
  bus_names os = first_seen same_name (filter_map (λ o. o.bus) os)

  -- the lookups on the bus of this name, in their order
  abbrev pub on_bus : List ℕ → List (Outline E) → List (Outline E)
  on_bus name os = filter (λ o. is_named name o.bus) os

  -- the lookups of each bus, under its name; local lookups are in no group
  abbrev pub bus_groups : List (Outline E) → List (List ℕ × List (Outline E))
  bus_groups os = map (λ name. (name, on_bus name os)) (bus_names os)

-- what contracts see of a group of borrowed lookups
abbrev pub group_of : {F : Type 0} → Bor (List ℕ) × Vec (Bor (Lookup F)) Global → List ℕ × List (Outline (SymbolicExpression F))
group_of e = (e.0.now, map (λ r. fields_of r.now) e.1.items)
