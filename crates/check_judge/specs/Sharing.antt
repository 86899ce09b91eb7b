-- Which lookups share a packed column.
use Rattle.std.specs.Prelude.{ℕ, List, [], ◌∷◌, ◌++◌, map}
use Rattle.std.specs.List.{flat_map}
use Rattle.lookup.specs.Cuts.{part_items}
use Rattle.lookup.specs.Packing.{passing}
use Rattle.lookup_model.specs.Outline.{Outline}

module _ {E : Type 0} where
  -- the numbers of the lookups of a part: their columns before packing, from 0 in the order of the text
  abbrev pub numbers_of : Outline E × List (Outline E) → List ℕ
  numbers_of part = map (λ o. o.column) (part_items part)

  -- For each packed column the numbers of the lookups that share it: what passes through is alone, and then come the
  -- parts of each bus.
  abbrev pub shared_by : List (Outline E) → List (List (Outline E × List (Outline E))) → List (List ℕ)
  shared_by before cuts = map (λ o. o.column ∷ []) (passing before) ++ flat_map (λ cut. map numbers_of cut) cuts
