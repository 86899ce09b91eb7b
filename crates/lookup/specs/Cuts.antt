-- Lists cut into consecutive parts.
use Rattle.std.specs.Prelude.{◌≡◌, List, [], ◌∷◌, ◌++◌}
use Rattle.std.specs.List.{AllByRecursion, flat_map}

-- a part has a first member and further ones
abbrev pub Part : Type 0 → Type 0
Part A = A × List A

module _ {A : Type 0} where
  -- the members of a part
  abbrev pub part_items : A × List A → List A
  part_items part = part.0 ∷ part.1

  -- the parts, put one after the other, are the list
  abbrev pub IsCut : List (A × List A) → List A → Type 0
  IsCut parts xs = flat_map part_items parts ≡ xs

  -- Each further member of a part joins those before it.
  abbrev pub IsGrown : (A × List A → A → Type 0) → A × List A → Type 0
  IsGrown Joins part = (front : List A) (next : A) (back : List A) → part.1 ≡ front ++ next ∷ back → Joins (part.0, front) next

  -- The first member of each later part stays out of the part before it.
  abbrev pub AreClosed : (A × List A → A → Type 0) → List (A × List A) → Type 0
  AreClosed StaysOut [] = Unit {0}
  AreClosed StaysOut (part ∷ []) = Unit {0}
  AreClosed StaysOut (part ∷ next ∷ parts) = StaysOut part next.0 × AreClosed StaysOut (next ∷ parts)

  module _ (Joins StaysOut : A × List A → A → Type 0) where
    -- Greedy parts: each is as long as it can be.
    abbrev pub AreGreedy : List (A × List A) → Type 0
    AreGreedy parts = AllByRecursion (IsGrown Joins) parts × AreClosed StaysOut parts

    -- A greedy cut of a list.
    abbrev pub IsGreedyCut : List (A × List A) → List A → Type 0
    IsGreedyCut parts xs = IsCut parts xs × AreGreedy parts
