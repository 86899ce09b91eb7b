-- Slots, the one that was filled last first.
use Rattle.std.specs.Prelude.{ℕ, List, map, reverse}
use Rattle.lookup_columns.specs.SpareLists.{rooms}
use Rattle.lookup_columns.specs.declared.slots.Slots.{Slots}

module _ {F : Type 0} where
  -- what the filled slots hold
  abbrev pub filled_slots : Slots F → List (List F)
  filled_slots s = reverse (map (λ v. v.items) s.lists.items)

  -- how many items each list that is put away has room for, the last one first
  abbrev pub spare_rooms : Slots F → List ℕ
  spare_rooms s = rooms s.spare
