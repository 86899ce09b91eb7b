-- What is kept of the places of a tuple.
use Rattle.std.specs.Prelude.{◌≡◌, ℕ, List, length, map, take}
use Rattle.lookup_debug.specs.BusTable.{saturated_usize, location_and_count_of}
use Rattle.lookup_debug.specs.Contributions.{SentLocation}
use Rattle.lookup_debug.specs.declared.unbalanced.UnbalancedTuple.{UnbalancedTuple}

-- their number, and the first of them, at most as many as the limit
abbrev pub IsKept : {F : Type 0} → ℕ → List (SentLocation × F) → UnbalancedTuple F → Type 0
IsKept limit places u = (u.place_count ≡ saturated_usize (length places)) × (map location_and_count_of u.places.items ≡ take limit places)
