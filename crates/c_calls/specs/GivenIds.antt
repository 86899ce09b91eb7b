-- The ids that the AIRs of a batch are given.
use Rattle.std.specs.Prelude.{◌+◌, ◌-◌, ◌==◌, ◌^◌, ℕ, Bool, List, length, map, min, not}
use Rattle.std.specs.List.{flat_map, list_any}
use Rattle.lookup_model.specs.LookupDegree.{greatest}
use Rattle.c_calls.specs.declared.batch_tables.Air.{Air}

-- whether an AIR has ids that are given
abbrev pub has_own_ids : Air → Bool
has_own_ids air = not (length air.ids.now == 0)

-- whether a batch has: one of its AIRs does
abbrev pub have_given_ids : List Air → Bool
have_given_ids airs = list_any has_own_ids airs

-- those of all AIRs
abbrev pub given_ids : List Air → List (List ℕ)
given_ids airs = map (λ air. air.ids.now) airs

-- the number after an id, but at most the greatest `usize`
abbrev pub next_number : ℕ → ℕ
next_number id = min (id + 1) (2 ^ 64 - 1)

-- the least number that all ids are below, but at most the greatest `usize`
abbrev pub id_bound : List (List ℕ) → ℕ
id_bound ids = greatest (flat_map (map next_number) ids)
