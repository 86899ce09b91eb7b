-- Lists whose memory is used again.
use Rattle.std.specs.Prelude.{ℕ, List, map, reverse, vec_capacity}
use Rattle.lookup_columns.specs.declared.spare.SpareLists.{SpareLists}

-- how many items each list that is put away has room for, the last one first
abbrev pub rooms : {T : Type 0} → SpareLists T → List ℕ
rooms s = reverse (map (λ v. vec_capacity v) s.lists.items)
