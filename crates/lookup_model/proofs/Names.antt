-- The names of buses.
use Rattle.std.proofs.Common.{◌≡◌, ℕ, List, nat_eq, refl, Decides}
use Rattle.std.proofs.lemmas.Bool.Decides.{Decides-eqb}
use Rattle.std.proofs.lemmas.Slice.Eq.{slice_eq-Decides}
use Rattle.std.specs.Cmp.Lexicographic.{pointwise}
use Rattle.lookup_model.specs.Names.{same_name}

-- the test of names decides their equality
pub same_name-Decides : (a b : List ℕ) → Decides (same_name a b) (a ≡ b)
same_name-Decides a b = slice_eq-Decides Decides-eqb a b (pointwise nat_eq a b) refl
