-- Elements of the integers modulo 7 that are not zero, for the tests.
use Rattle.std.specs.Prelude.{◌≡◌, ◌≢◌, ◌<◌, ◌%◌, ℕ, [], ◌∷◌, All}
use Rattle.std.proofs.Common.{sym, ap, ◌∙◌, arith}
use Rattle.std.proofs.lemmas.List.Elements.{All-from_recursion}
use Rattle.field.specs.internal.IntegersModulo7.{f7_of, f7_ring}
use Rattle.field.specs.Residue.{Residue}

-- A residue of a number that 7 does not divide is not zero.
differs : (x : Residue 7) (n : ℕ) → x ≡ f7_of n → 0 < n % 7 → x ≢ f7_ring.zero
differs x n e low z = let values : n % 7 ≡ 0 = ap (λ (r : Residue 7). r.value) (sym e ∙ z) in omega arith

-- Neither 2, 3 nor 4 is zero.
pub three_nonzero : (x y z : Residue 7) → x ≡ f7_of 2 → y ≡ f7_of 3 → z ≡ f7_of 4 → All (λ a. a ≢ f7_ring.zero) (x ∷ y ∷ z ∷ [])
three_nonzero x y z e f g =
    All-from_recursion (λ a. a ≢ f7_ring.zero) (x ∷ y ∷ z ∷ []) (differs x 2 e (omega arith), (differs y 3 f (omega arith), (differs z 4 g (omega arith), tt)))
