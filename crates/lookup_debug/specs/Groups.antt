-- What is checked by itself: each local lookup, and each bus.
use Rattle.std.specs.Prelude.{ℕ, Bool, true, false, List, Option, None, Some, codes, decimal, map, nat_eq, ◌++◌}
use Rattle.std.specs.Cmp.Lexicographic.{pointwise}
use Rattle.std.specs.List.{enumerate_from, filter, filter_map, flat_map}
use Rattle.field.specs.Ring.{Ring}
use Rattle.lookup_model.specs.Names.{is_named}
use Rattle.lookup_model.specs.Net.{first_seen}
use Rattle.lookup_model.specs.Outline.{bus_of}
use Rattle.lookup_model.specs.declared.types.Lookup.{Lookup}
use Rattle.lookup_debug.specs.Contributions.{Contribution, Traced, contributions_of}

-- a lookup with the AIR that it is of, the index of that AIR, and its own index in it
pub record LookupAt (F : Type 0) : Type 0 where
  pub instance : ℕ
  pub index : ℕ
  pub traced : Traced F
  pub lookup : Lookup F

-- the lookups of an AIR at this index
abbrev pub lookups_in : {F : Type 0} → ℕ × Traced F → List (LookupAt F)
lookups_in i = map (λ l. record { instance = i.0; index = l.0; traced = i.1; lookup = l.1 }) (enumerate_from 0 i.1.lookups)

-- those of all AIRs, in order
abbrev pub all_lookups : {F : Type 0} → List (Traced F) → List (LookupAt F)
all_lookups instances = flat_map lookups_in (enumerate_from 0 instances)

-- whether a name is missing
abbrev pub is_missing : Option (List ℕ) → Bool
is_missing None = true
is_missing (Some name) = false

-- whether a lookup is local, or on the bus of this name
abbrev pub is_local : {F : Type 0} → LookupAt F → Bool
is_local p = is_missing (bus_of p.lookup.kind)

abbrev pub is_on : {F : Type 0} → List ℕ → LookupAt F → Bool
is_on name p = is_named name (bus_of p.lookup.kind)

-- the names of the buses, in the order of their first lookups
abbrev pub traced_bus_names : {F : Type 0} → List (Traced F) → List (List ℕ)
traced_bus_names instances = first_seen (pointwise nat_eq) (filter_map (λ p. bus_of p.lookup.kind) (all_lookups instances))

-- what is checked by itself: its label, and all that is contributed to it
pub record Group (F : Type 0) : Type 0 where
  pub label : List ℕ
  pub contributions : List (Contribution F)

-- `instance I local lookup L`, and `global lookup 'NAME'`
abbrev pub local_label : ℕ → ℕ → List ℕ
local_label instance index = codes "instance " ++ (decimal instance ++ (codes " local lookup " ++ decimal index))

abbrev pub bus_label : List ℕ → List ℕ
bus_label name = codes "global lookup '" ++ (name ++ codes "'")

module _ {F : Type 0} (R : Ring F) (eq : F → F → Bool) where
  -- what a lookup contributes
  abbrev pub lookup_contributions : LookupAt F → List (Contribution F)
  lookup_contributions p = contributions_of R eq p.instance p.index p.traced p.lookup

  -- a local lookup is a group
  abbrev pub local_group : LookupAt F → Group F
  local_group p = record { label = local_label p.instance p.index; contributions = lookup_contributions p }

  abbrev pub local_groups : List (Traced F) → List (Group F)
  local_groups instances = map local_group (filter is_local (all_lookups instances))

  -- and so is a bus, with all lookups on it
  abbrev pub bus_group : List (Traced F) → List ℕ → Group F
  bus_group instances name = record { label = bus_label name; contributions = flat_map lookup_contributions (filter (is_on name) (all_lookups instances)) }

  -- first the local lookups, and then the buses
  abbrev pub groups : List (Traced F) → List (Group F)
  groups instances = local_groups instances ++ map (bus_group instances) (traced_bus_names instances)
