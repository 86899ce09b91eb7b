-- Lists split into parts of one member or parts that fit.
use Rattle.std.specs.Prelude.{◌≡◌, ◌<◌, ◌≤◌, ◌+◌, ◌⊎◌, ℕ, List, [], length, take, drop}
use Rattle.std.specs.List.{AllByRecursion}
use Rattle.lookup.specs.Cuts.{IsCut, part_items}

module _ {A : Type 0} where
  module _ (Fits : List A → Type 0) where
    -- A consecutive split: each part has one member, or it fits.
    abbrev pub IsSplit : List (A × List A) → List A → Type 0
    IsSplit parts xs = IsCut parts xs × AllByRecursion (λ part. (part.1 ≡ []) ⊎ Fits (part_items part)) parts

    -- What fits does so in every part of it.
    abbrev pub IsHereditary : Type 0
    IsHereditary = (xs : List A) (a n : ℕ) → 0 < n → a + n ≤ length xs → Fits xs → Fits (take n (drop a xs))
