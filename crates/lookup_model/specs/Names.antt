-- The names of buses.
use Rattle.std.specs.Prelude.{ℕ, Bool, false, List, Option, None, Some, nat_eq}
use Rattle.std.specs.Cmp.Lexicographic.{pointwise}

-- whether two names are the same
abbrev pub same_name : List ℕ → List ℕ → Bool
same_name a b = pointwise nat_eq a b

-- whether there is a name, and it is this one
abbrev pub is_named : List ℕ → Option (List ℕ) → Bool
is_named name None = false
is_named name (Some other) = same_name name other
