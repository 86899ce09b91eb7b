-- The flags of a row that are not zero.
use Rattle.std.specs.Prelude.{◌≡◌, ℕ, Bool, List, [], ◌∷◌, length, map, not}
use Rattle.std.specs.List.{enumerate_from, filter}
use Rattle.field.specs.Ring.{Ring}

-- the indices of the flags that are not zero, counted from n
abbrev pub nonzero_indices : {F : Type 0} → Ring F → (F → F → Bool) → ℕ → List F → List ℕ
nonzero_indices R eq n flags = map (λ p. p.0) (filter (λ p. not (eq p.1 R.zero)) (enumerate_from n flags))

-- This many flags are not zero, and if it is one alone, it stands at this index.
pub record AreNonzero {F : Type 0} (R : Ring F) (eq : F → F → Bool) (flags : List F) (count last : ℕ) : Type 0 where
  pub many : count ≡ length (nonzero_indices R eq 0 flags)
  pub only : count ≡ 1 → nonzero_indices R eq 0 flags ≡ last ∷ []
