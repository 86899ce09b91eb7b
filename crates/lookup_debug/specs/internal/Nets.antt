-- What a map of nets holds.
use Rattle.std.specs.Prelude.{ℕ, Bool, List, Option, map, not}
use Rattle.std.specs.Borrow.{Bor}
use Rattle.std.specs.Cmp.Lexicographic.{pointwise}
use Rattle.std.specs.List.{filter}
use Rattle.field.specs.Ring.{Ring}
use Rattle.field.specs.Sums.{sum_in}
use Rattle.lookup_model.specs.Net.{first_seen}
use Rattle.lookup_debug.specs.Mismatch.{text_cmp}
use Rattle.lookup_debug.specs.internal.Least.{IsBest}

-- each distinct tuple with the sum of its amounts, in the order in which the tuples are first seen
abbrev pub amount_nets : {F : Type 0} → Ring F → (F → F → Bool) → List (List F × F) → List (List F × F)
amount_nets R eq xs =
    map (λ tuple. (tuple, sum_in R (map (λ a. a.1) (filter (λ a. pointwise eq tuple a.0) xs)))) (first_seen (pointwise eq) (map (λ a. a.0) xs))

-- the entries of a map with slices as keys
abbrev pub tuple_entries : {F : Type 0} → List (Bor (List F) × F) → List (List F × F)
tuple_entries es = map (λ e. (e.0.now, e.1)) es

-- Of the first n entries, the index of the first tuple by its texts whose net is not zero.
abbrev pub IsFirstIndex : {F : Type 0} → Ring F → (F → F → Bool) → (F → List ℕ) → List (Bor (List F) × F) → ℕ → Option ℕ → Type 0
IsFirstIndex {F} R eq text es n best = IsBest (λ (a b : Bor (List F)). text_cmp text a.now b.now) (λ v. not (eq v R.zero)) es n best
