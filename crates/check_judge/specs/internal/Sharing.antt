-- The order in which packing leaves lookups, and what is kept of each.
use Rattle.std.specs.Prelude.{◌≡◌, ◌<◌, ℕ, List, ◌++◌, length, map}
use Rattle.std.specs.List.{AllByRecursion, flat_map, sum_by}
use Rattle.lookup.specs.Buses.{bus_names, on_bus}
use Rattle.lookup.specs.Cuts.{IsCut, part_items}
use Rattle.lookup.specs.Packing.{additive_lookups, passing}
use Rattle.lookup_model.specs.Outline.{Outline, outline_of}
use Rattle.lookup_model.specs.declared.types.Lookup.{Lookup}
use Rattle.check_judge.specs.Found.{Sized}
use Rattle.check_judge.specs.declared.sharing.LookupTuples.{LookupTuples}

module _ {E : Type 0} where
  -- the lookups in that order: what passes through, and then the others, bus by bus
  abbrev pub in_packing_order : List (Outline E) → List (Outline E)
  in_packing_order os = passing os ++ flat_map (λ name. on_bus name (additive_lookups os)) (bus_names (additive_lookups os))

  -- the number of a lookup, and how many tuples it has
  abbrev pub tuples_of : Outline E → LookupTuples
  tuples_of o = record { number = o.column; tuples = length o.elements }

  -- each lookup has at least one tuple
  abbrev pub HaveTuples : List (Outline E) → Type 0
  HaveTuples os = AllByRecursion (λ o. 0 < length o.elements) os

-- However lookups that have tuples are cut into parts with as many tuples as these columns have, these are the numbers of
-- the lookups of each part.
abbrev pub AreNumbersOfParts : {F : Type 0} → List LookupTuples → List (Lookup F) → List (List ℕ) → Type 0
AreNumbersOfParts order columns numbers =
    (cuts : List (LookupTuples × List LookupTuples)) → IsCut cuts order → AllByRecursion (λ member. 0 < member.tuples) order
    → map (λ part. sum_by (λ member. member.tuples) (part_items part)) cuts ≡ map (λ column. length column.elements.items) columns
    → numbers ≡ map (λ part. map (λ member. member.number) (part_items part)) cuts

-- each lookup of each AIR has a tuple
abbrev pub AllHaveTuples : {F : Type 0} → List (Sized F) → Type 0
AllHaveTuples airs = AllByRecursion (λ a. HaveTuples (map outline_of a.lookups)) airs
