-- Coefficient lists with zeros up to a length, and with one more coefficient.
use Rattle.std.proofs.Common.{◌≡◌, ℕ, zero, suc, ◌≤◌, List, [], ◌∷◌, ◌++◌, length, refl, ap, ap₂, ◌∙◌, arith}
use Rattle.field.specs.Polynomial.{value_at}
use Rattle.field.specs.Ring.{Ring, IsCommutativeRing, power}
use Rattle.field.specs.laws.RingFacts.{mul_zero, zero_add}
use Rattle.field.specs.laws.RingSolver.{var, con, ◌:+◌, ◌:*◌, ring_law}

module _ {K : Type 0} {S : Ring K} (laws : IsCommutativeRing S) where
  -- a coefficient list with zeros up to a length
  abbrev pub padded : ℕ → List K → List K
  padded zero xs = xs
  padded (suc n) [] = S.zero ∷ padded n []
  padded (suc n) (x ∷ xs) = x ∷ padded n xs

  pub length-padded : (n : ℕ) (xs : List K) → length xs ≤ n → length (padded n xs) ≡ n
  length-padded zero [] le = refl
  length-padded zero (x ∷ xs) le = absurd (omega (arith, le))
  length-padded (suc n) [] le = ap suc (length-padded n [] (omega arith))
  length-padded (suc n) (x ∷ xs) le = ap suc (length-padded n xs (omega (arith, le)))

  -- zeros leave the value
  pub value_at-padded : (n : ℕ) (xs : List K) (x : K) → value_at S (padded n xs) x ≡ value_at S xs x
  value_at-padded zero xs x = refl
  value_at-padded (suc n) [] x = ap (λ t. S.add S.zero (S.mul x t)) (value_at-padded n [] x) ∙ (zero_add laws (S.mul x S.zero) ∙ mul_zero laws x)
  value_at-padded (suc n) (y ∷ xs) x = ap (λ t. S.add y (S.mul x t)) (value_at-padded n xs x)

  -- one more coefficient, of the highest power
  pub value_at-push : (cs : List K) (c x : K) → value_at S (cs ++ c ∷ []) x ≡ S.add (value_at S cs x) (S.mul (power S x (length cs)) c)
  unfolding power
  value_at-push [] c x = ring_law laws (c ∷ x ∷ []) (var 0 :+ var 1 :* con 0) (con 0 :+ con 1 :* var 0) refl
  value_at-push (d ∷ cs) c x =
      ap (λ t. S.add d (S.mul x t)) (value_at-push cs c x)
      ∙ ring_law laws (c ∷ d ∷ x ∷ value_at S cs x ∷ power S x (length cs) ∷ []) (var 1 :+ var 2 :* (var 3 :+ var 4 :* var 0)) ((var 1 :+ var 2 :* var 3) :+ (var 2 :* var 4) :* var 0) refl

  -- lists of the same length that are the same with zeros behind them are the same
  pub same_padded : (n : ℕ) (xs ys : List K) → length xs ≡ length ys → padded n xs ≡ padded n ys → xs ≡ ys
  same_padded zero xs ys l e = e
  same_padded (suc n) [] [] l e = refl
  same_padded (suc n) [] (y ∷ ys) l e = absurd (omega (arith, l))
  same_padded (suc n) (x ∷ xs) [] l e = absurd (omega (arith, l))
  same_padded (suc n) (x ∷ xs) (y ∷ ys) l e = ap₂ (λ (u : K) (us : List K). u ∷ us) (cc e) (same_padded n xs ys (omega (arith, l)) (cc e))

  -- and so are lists with one more coefficient
  pub same_push : (cs ds : List K) (c d : K) → length cs ≡ length ds → cs ++ c ∷ [] ≡ ds ++ d ∷ [] → (cs ≡ ds) × (c ≡ d)
  same_push [] [] c d l e = (refl, cc e)
  same_push [] (y ∷ ds) c d l e = absurd (omega (arith, l))
  same_push (x ∷ cs) [] c d l e = absurd (omega (arith, l))
  same_push (x ∷ cs) (y ∷ ds) c d l e =
      let rest : (cs ≡ ds) × (c ≡ d) = same_push cs ds c d (omega (arith, l)) (cc e) in (ap₂ (λ (u : K) (us : List K). u ∷ us) (cc e) rest.0, rest.1)
