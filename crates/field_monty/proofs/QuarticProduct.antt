-- The product of two polynomials modulo X^4 - w, by coefficients of one factor times w.
use Rattle.std.specs.Prelude.{◌≡◌, List, [], ◌∷◌, refl}
use Rattle.std.proofs.Common.{ap, ap₂, ◌∙◌}
use Rattle.field_monty.specs.Quartic.{Quartic, norm_high, norm_low, quartic_cofactor, quartic_embed, quartic_ring}
use Rattle.field_monty.specs.laws.Quartic.{quartic_same}
use Rattle.field.specs.Ring.{Ring, IsCommutativeRing, sub_in}
use Rattle.field.specs.laws.RingSolver.{var, con, ◌:+◌, ◌:*◌, ring_given, ring_law}

module _ {A : Type 0} {R : Ring A} (laws : IsCommutativeRing R) (w : A) (a b : Quartic A) where
  -- the four coefficients, where w1, w2 and w3 are w times those of b
  pub quartic_product : (w1 w2 w3 : A) → w1 ≡ R.mul w b.c1 → w2 ≡ R.mul w b.c2 → w3 ≡ R.mul w b.c3 → (r : Quartic A)
      → r.c0 ≡ R.add (R.add (R.mul a.c0 b.c0) (R.mul a.c1 w3)) (R.add (R.mul a.c2 w2) (R.mul a.c3 w1))
      → r.c1 ≡ R.add (R.add (R.mul a.c0 b.c1) (R.mul a.c1 b.c0)) (R.add (R.mul a.c2 w3) (R.mul a.c3 w2))
      → r.c2 ≡ R.add (R.add (R.mul a.c0 b.c2) (R.mul a.c1 b.c1)) (R.add (R.mul a.c2 b.c0) (R.mul a.c3 w3))
      → r.c3 ≡ R.add (R.add (R.mul a.c0 b.c3) (R.mul a.c1 b.c2)) (R.add (R.mul a.c2 b.c1) (R.mul a.c3 b.c0))
      → r ≡ (quartic_ring R w).mul a b
  quartic_product w1 w2 w3 e1 e2 e3 r f0 f1 f2 f3 =
      let env : A → List A = λ x. x ∷ w ∷ a.c0 ∷ a.c1 ∷ a.c2 ∷ a.c3 ∷ b.c0 ∷ b.c1 ∷ b.c2 ∷ b.c3 ∷ w1 ∷ w2 ∷ w3 ∷ [] in
      let x = var 0 in
      let W = var 1 in
      let a0 = var 2 in
      let a1 = var 3 in
      let a2 = var 4 in
      let a3 = var 5 in
      let b0 = var 6 in
      let b1 = var 7 in
      let b2 = var 8 in
      let b3 = var 9 in
      let v1 = var 10 in
      let v2 = var 11 in
      let v3 = var 12 in
      quartic_same r _
      (ring_given laws (env r.c0) ((con 1, x, a0 :* b0 :+ a1 :* v3 :+ (a2 :* v2 :+ a3 :* v1)) ∷ (a1, v3, W :* b3) ∷ (a2, v2, W :* b2) ∷ (a3, v1, W :* b1) ∷ [])
      x (a0 :* b0 :+ W :* (a1 :* b3 :+ (a2 :* b2 :+ a3 :* b1))) (f0, (e3, (e2, (e1, tt)))) refl)
      (ring_given laws (env r.c1) ((con 1, x, a0 :* b1 :+ a1 :* b0 :+ (a2 :* v3 :+ a3 :* v2)) ∷ (a2, v3, W :* b3) ∷ (a3, v2, W :* b2) ∷ [])
      x (a0 :* b1 :+ a1 :* b0 :+ W :* (a2 :* b3 :+ a3 :* b2)) (f1, (e3, (e2, tt))) refl)
      (ring_given laws (env r.c2) ((con 1, x, a0 :* b2 :+ a1 :* b1 :+ (a2 :* b0 :+ a3 :* v3)) ∷ (a3, v3, W :* b3) ∷ [])
      x (a0 :* b2 :+ (a1 :* b1 :+ a2 :* b0) :+ W :* (a3 :* b3)) (f2, (e3, tt)) refl)
      f3

module _ {A : Type 0} {R : Ring A} (laws : IsCommutativeRing R) (w : A) (a : Quartic A) (x : A) where
  -- the product with an embedded element, by four products
  pub quartic_scaled : (r : Quartic A) → r.c0 ≡ R.mul a.c0 x → r.c1 ≡ R.mul a.c1 x → r.c2 ≡ R.mul a.c2 x → r.c3 ≡ R.mul a.c3 x → r ≡ (quartic_ring R w).mul a (quartic_embed R x)
  quartic_scaled r f0 f1 f2 f3 =
      let env : List A = w ∷ x ∷ a.c0 ∷ a.c1 ∷ a.c2 ∷ a.c3 ∷ [] in
      let W = var 0 in
      let X = var 1 in
      let a0 = var 2 in
      let a1 = var 3 in
      let a2 = var 4 in
      let a3 = var 5 in
      quartic_same r _
      (f0 ∙ ring_law laws env (a0 :* X) (a0 :* X :+ W :* (a1 :* con 0 :+ (a2 :* con 0 :+ a3 :* con 0))) refl)
      (f1 ∙ ring_law laws env (a1 :* X) (a0 :* con 0 :+ a1 :* X :+ W :* (a2 :* con 0 :+ a3 :* con 0)) refl)
      (f2 ∙ ring_law laws env (a2 :* X) (a0 :* con 0 :+ (a1 :* con 0 :+ a2 :* X) :+ W :* (a3 :* con 0)) refl)
      (f3 ∙ ring_law laws env (a3 :* X) (a0 :* con 0 :+ a1 :* con 0 :+ (a2 :* con 0 :+ a3 :* X)) refl)

  -- what is left of b when that is subtracted
  pub quartic_minus_scaled : (b r : Quartic A) → r.c0 ≡ sub_in R b.c0 (R.mul a.c0 x) → r.c1 ≡ sub_in R b.c1 (R.mul a.c1 x) → r.c2 ≡ sub_in R b.c2 (R.mul a.c2 x) → r.c3 ≡ sub_in R b.c3 (R.mul a.c3 x)
      → r ≡ sub_in (quartic_ring R w) b ((quartic_ring R w).mul a (quartic_embed R x))
  quartic_minus_scaled b r f0 f1 f2 f3 =
      quartic_same r _ f0 f1 f2 f3
      ∙ ap (sub_in (quartic_ring R w) b) (quartic_scaled (record { c0 = R.mul a.c0 x; c1 = R.mul a.c1 x; c2 = R.mul a.c2 x; c3 = R.mul a.c3 x }) refl refl refl refl)

module _ {A : Type 0} (R : Ring A) (w : A) (a : Quartic A) where
  -- the cofactor by the two coefficients of the norm
  pub quartic_cofactor_by : (d u v : A) → u ≡ norm_low R w a → v ≡ norm_high R w a → (r : Quartic A)
      → r.c0 ≡ R.mul d (sub_in R (R.mul a.c0 u) (R.mul w (R.mul a.c2 v)))
      → r.c1 ≡ R.mul d (sub_in R (R.mul w (R.mul a.c3 v)) (R.mul a.c1 u))
      → r.c2 ≡ R.mul d (sub_in R (R.mul a.c2 u) (R.mul a.c0 v))
      → r.c3 ≡ R.mul d (sub_in R (R.mul a.c1 v) (R.mul a.c3 u))
      → r ≡ quartic_cofactor R w d a
  quartic_cofactor_by d u v e f r f0 f1 f2 f3 =
      quartic_same r _
      (f0 ∙ ap₂ (λ x y. R.mul d (sub_in R (R.mul a.c0 x) (R.mul w (R.mul a.c2 y)))) e f)
      (f1 ∙ ap₂ (λ x y. R.mul d (sub_in R (R.mul w (R.mul a.c3 y)) (R.mul a.c1 x))) e f)
      (f2 ∙ ap₂ (λ x y. R.mul d (sub_in R (R.mul a.c2 x) (R.mul a.c0 y))) e f)
      (f3 ∙ ap₂ (λ x y. R.mul d (sub_in R (R.mul a.c1 y) (R.mul a.c3 x))) e f)
