-- Polynomials of expressions, node by node.
use Rattle.std.proofs.Common.{◌≡◌, [], ◌∷◌, refl, ap, ap₂, ◌∙◌}
use Rattle.field.specs.Ring.{Ring, IsCommutativeRing, sub_in}
use Rattle.field.specs.laws.RingSolver.{var, con, :neg, ◌:+◌, ◌:-◌, ◌:*◌, ring_law}

module _ {F : Type 0} {R : Ring F} (laws : IsCommutativeRing R) where
  -- once more is a sum
  pub plus_once : (i l r : F) → i ≡ R.one → R.add (R.mul (R.mul i R.one) r) l ≡ R.add l r
  plus_once i l r e =
      ap (λ x. R.add (R.mul (R.mul x R.one) r) l) e ∙ ring_law laws (l ∷ r ∷ []) ((con 1 :* con 1) :* var 1 :+ var 0) (var 0 :+ var 1) refl

  -- once less is a difference
  pub minus_once : (i l r : F) → i ≡ R.neg R.one → R.add (R.mul (R.mul i R.one) r) l ≡ sub_in R l r
  minus_once i l r e =
      ap (λ x. R.add (R.mul (R.mul x R.one) r) l) e ∙ ring_law laws (l ∷ r ∷ []) (((:neg (con 1)) :* con 1) :* var 1 :+ var 0) (var 0 :- var 1) refl

  -- once less than nothing is a negation
  pub none_less : (i r : F) → i ≡ R.neg R.one → R.add (R.mul (R.mul i R.one) r) R.zero ≡ R.neg r
  none_less i r e =
      ap (λ x. R.add (R.mul (R.mul x R.one) r) R.zero) e ∙ ring_law laws (r ∷ []) (((:neg (con 1)) :* con 1) :* var 0 :+ con 0) (:neg (var 0)) refl

  -- a single term
  pub single : (x : F) → R.add (R.mul x R.one) R.zero ≡ x
  single x = ring_law laws (x ∷ []) (var 0 :* con 1 :+ con 0) (var 0) refl

  pub single_cell : (i x : F) → i ≡ R.one → R.add (R.mul i (R.mul x R.one)) R.zero ≡ x
  single_cell i x e = ap (λ y. R.add (R.mul y (R.mul x R.one)) R.zero) e ∙ ring_law laws (x ∷ []) (con 1 :* (var 0 :* con 1) :+ con 0) (var 0) refl

  -- as much as minus one times an element more is a difference
  pub less_one : (i l r : F) → i ≡ R.neg R.one → R.add (R.mul i r) l ≡ sub_in R l r
  less_one i l r e =
      ap (λ x. R.add (R.mul x r) l) e ∙ ring_law laws (l ∷ r ∷ []) ((:neg (con 1)) :* var 1 :+ var 0) (var 0 :- var 1) refl

  -- from nothing it is a negation
  pub none_less_one : (i r s : F) → i ≡ R.neg R.one → s ≡ R.zero → R.add (R.mul i r) s ≡ R.neg r
  none_less_one i r s e z =
      ap₂ (λ x y. R.add (R.mul x r) y) e z ∙ ring_law laws (r ∷ []) ((:neg (con 1)) :* var 0 :+ con 0) (:neg (var 0)) refl

  -- once more than nothing
  pub none_more : (i x s : F) → i ≡ R.one → s ≡ R.zero → R.add (R.mul (R.mul i R.one) x) s ≡ x
  none_more i x s e z =
      ap₂ (λ a b. R.add (R.mul (R.mul a R.one) x) b) e z ∙ ring_law laws (x ∷ []) ((con 1 :* con 1) :* var 0 :+ con 0) (var 0) refl
