-- When messages collide: tuples that combine alike, and keys that share a point.
use Rattle.std.specs.Prelude.{◌≡◌, ◌≢◌, ◌<◌, ◌≤◌, ℕ, List, [], ◌∷◌, length}
use Rattle.std.specs.List.{AllByRecursion}
use Rattle.field.specs.Distinct.{IsDistinct}
use Rattle.field.specs.Polynomial.{combined}
use Rattle.field.specs.Ring.{Ring}
use Rattle.lookup_model.specs.Message.{Key}
use Rattle.lookup_model.specs.Points.{point_in}

-- A lawful key: its id is below m, and its tuple has the width of its id, which is at most W.
pub record IsLawfulKey {F : Type 0} (W m : ℕ) (width : ℕ → ℕ) (key : Key F) : Type 0 where
  pub below : key.id < m
  pub has_width : length key.tuple ≡ width key.id
  pub narrow : length key.tuple ≤ W

module _ {K : Type 0} (S : Ring K) where
  -- a zero in front of a tuple of one element changes nothing: widths have to be equal
  abbrev pub IgnoresLeadingZero : Type 0
  IgnoresLeadingZero = (x beta : K) → combined S (x ∷ []) beta ≡ combined S (S.zero ∷ x ∷ []) beta

  -- two distinct tuples of the same width w combine alike for at most w - 1 betas
  abbrev pub FewCombineAlike : Type 0
  FewCombineAlike =
      (a b : List K) → length a ≡ length b → a ≢ b
      → (betas : List K) → IsDistinct betas → AllByRecursion (λ beta. combined S a beta ≡ combined S b beta) betas → length betas < length a

  -- two distinct lawful keys, with ids below m and tuples of at most W elements, share a point for at
  -- most W betas
  abbrev pub FewShareAPoint : ℕ → ℕ → Type 0
  FewShareAPoint W m =
      (width : ℕ → ℕ) (a b : Key K) → IsLawfulKey W m width a → IsLawfulKey W m width b → a ≢ b
      → (betas : List K) → IsDistinct betas → AllByRecursion (λ beta. point_in S W beta a ≡ point_in S W beta b) betas → length betas ≤ W
