-- Norms and cofactors of polynomials modulo X^4 - w, by sums of products that are reduced once.
use Rattle.std.specs.Prelude.{◌≡◌, List, [], ◌∷◌, refl}
use Rattle.std.proofs.Common.{sym, ap, ap₂, ◌∙◌}
use Rattle.field_monty.specs.Quartic.{Quartic, norm_high, norm_low, quartic_cofactor, quartic_embed, quartic_norm, quartic_ring}
use Rattle.field_monty.specs.laws.Quartic.{quartic_same}
use Rattle.field_monty.specs.laws.QuarticField.{quartic_lawful}
use Rattle.field_monty.proofs.QuarticProduct.{quartic_scaled}
use Rattle.field.specs.Ring.{Ring, IsCommutativeRing, sub_in}
use Rattle.field.specs.laws.RingSolver.{var, con, :neg, ◌:+◌, ◌:*◌, ◌:-◌, ring_given}

module _ {A : Type 0} {R : Ring A} (laws : IsCommutativeRing R) (w : A) (a : Quartic A) where
  -- the low part of the norm
  pub low_by_three : (w2 w3 n s r : A) → w2 ≡ R.mul w a.c2 → w3 ≡ R.mul w a.c3 → n ≡ R.neg a.c1 → s ≡ R.add n n
      → r ≡ R.add (R.add (R.mul a.c0 a.c0) (R.mul a.c2 w2)) (R.mul s w3) → r ≡ norm_low R w a
  low_by_three w2 w3 n s r e2 e3 en es er =
      let W = var 0 in
      let a0 = var 1 in
      let a1 = var 2 in
      let a2 = var 3 in
      let a3 = var 4 in
      let v2 = var 5 in
      let v3 = var 6 in
      let N = var 7 in
      let S = var 8 in
      let X = var 9 in
      ring_given laws (w ∷ a.c0 ∷ a.c1 ∷ a.c2 ∷ a.c3 ∷ w2 ∷ w3 ∷ n ∷ s ∷ r ∷ [])
      ((con 1, X, a0 :* a0 :+ a2 :* v2 :+ S :* v3) ∷ (a2, v2, W :* a2) ∷ (S, v3, W :* a3) ∷ (W :* a3, S, N :+ N) ∷ (con 2 :* W :* a3, N, :neg a1) ∷ [])
      X (a0 :* a0 :+ W :* (a2 :* a2) :- W :* (a1 :* a3 :+ a1 :* a3)) (er, (e2, (e3, (es, (en, tt))))) refl

  -- the high part
  pub high_by_three : (w3 n s m r : A) → w3 ≡ R.mul w a.c3 → n ≡ R.neg a.c1 → s ≡ R.add a.c0 a.c0 → m ≡ R.neg a.c3
      → r ≡ R.add (R.add (R.mul s a.c2) (R.mul n a.c1)) (R.mul m w3) → r ≡ norm_high R w a
  high_by_three w3 n s m r e3 en es em er =
      let W = var 0 in
      let a0 = var 1 in
      let a1 = var 2 in
      let a2 = var 3 in
      let a3 = var 4 in
      let v3 = var 5 in
      let N = var 6 in
      let S = var 7 in
      let M = var 8 in
      let X = var 9 in
      ring_given laws (w ∷ a.c0 ∷ a.c1 ∷ a.c2 ∷ a.c3 ∷ w3 ∷ n ∷ s ∷ m ∷ r ∷ [])
      ((con 1, X, S :* a2 :+ N :* a1 :+ M :* v3) ∷ (a2, S, a0 :+ a0) ∷ (a1, N, :neg a1) ∷ (v3, M, :neg a3) ∷ (:neg a3, v3, W :* a3) ∷ [])
      X (a0 :* a2 :+ a0 :* a2 :- (a1 :* a1 :+ W :* (a3 :* a3))) (er, (es, (en, (em, (e3, tt))))) refl

  -- the norm of these parts
  norm_of_parts : (u v m x r : A) → m ≡ R.neg v → x ≡ R.mul w v → r ≡ R.add (R.mul u u) (R.mul m x) → r ≡ sub_in R (R.mul u u) (R.mul w (R.mul v v))
  norm_of_parts u v m x r em ex er =
      let W = var 0 in
      let U = var 1 in
      let V = var 2 in
      let M = var 3 in
      let X = var 4 in
      ring_given laws (w ∷ u ∷ v ∷ m ∷ x ∷ r ∷ []) ((con 1, var 5, U :* U :+ M :* X) ∷ (X, M, :neg V) ∷ (:neg V, X, W :* V) ∷ [])
      (var 5) (U :* U :- W :* (V :* V)) (er, (em, (ex, tt))) refl

  pub norm_by_two : (u v m x r : A) → u ≡ norm_low R w a → v ≡ norm_high R w a → m ≡ R.neg v → x ≡ R.mul w v → r ≡ R.add (R.mul u u) (R.mul m x) → r ≡ quartic_norm R w a
  norm_by_two u v m x r eu ev em ex er =
      norm_of_parts u v m x r em ex er ∙ ap₂ (λ (p q : A). sub_in R (R.mul p p) (R.mul w (R.mul q q))) eu ev

  -- the cofactor, by the parts of the norm
  abbrev cofactor_of_parts : A → A → A → Quartic A
  cofactor_of_parts d u v = record {
    c0 = R.mul d (sub_in R (R.mul a.c0 u) (R.mul w (R.mul a.c2 v)));
    c1 = R.mul d (sub_in R (R.mul w (R.mul a.c3 v)) (R.mul a.c1 u));
    c2 = R.mul d (sub_in R (R.mul a.c2 u) (R.mul a.c0 v));
    c3 = R.mul d (sub_in R (R.mul a.c1 v) (R.mul a.c3 u));
  }

  pub cofactor_by_two : (d u v x y z nx ny nz nx2 : A) (r : Quartic A) → u ≡ norm_low R w a → v ≡ norm_high R w a → x ≡ R.mul u d → y ≡ R.mul v d → z ≡ R.mul w y
      → nz ≡ R.neg z → nx ≡ R.neg x → ny ≡ R.neg y → nx2 ≡ R.neg x
      → r.c0 ≡ R.add (R.mul a.c0 x) (R.mul a.c2 nz) → r.c1 ≡ R.add (R.mul a.c3 z) (R.mul a.c1 nx)
      → r.c2 ≡ R.add (R.mul a.c2 x) (R.mul a.c0 ny) → r.c3 ≡ R.add (R.mul a.c1 y) (R.mul a.c3 nx2)
      → r ≡ quartic_cofactor R w d a
  cofactor_by_two d u v x y z nx ny nz nx2 r eu ev ex ey ez enz enx eny enx2 f0 f1 f2 f3 =
      let env : A → List A = λ t. t ∷ w ∷ a.c0 ∷ a.c1 ∷ a.c2 ∷ a.c3 ∷ d ∷ u ∷ v ∷ x ∷ y ∷ z ∷ nx ∷ ny ∷ nz ∷ nx2 ∷ [] in
      let T = var 0 in
      let W = var 1 in
      let a0 = var 2 in
      let a1 = var 3 in
      let a2 = var 4 in
      let a3 = var 5 in
      let D = var 6 in
      let U = var 7 in
      let V = var 8 in
      let X = var 9 in
      let Y = var 10 in
      let Z = var 11 in
      let NX = var 12 in
      let NY = var 13 in
      let NZ = var 14 in
      let NX2 = var 15 in
      quartic_same r (cofactor_of_parts d u v)
      (ring_given laws (env r.c0) ((con 1, T, a0 :* X :+ a2 :* NZ) ∷ (a0, X, U :* D) ∷ (a2, NZ, :neg Z) ∷ (:neg a2, Z, W :* Y) ∷ (:neg (a2 :* W), Y, V :* D) ∷ [])
      T (D :* (a0 :* U :- W :* (a2 :* V))) (f0, (ex, (enz, (ez, (ey, tt))))) refl)
      (ring_given laws (env r.c1) ((con 1, T, a3 :* Z :+ a1 :* NX) ∷ (a3, Z, W :* Y) ∷ (a3 :* W, Y, V :* D) ∷ (a1, NX, :neg X) ∷ (:neg a1, X, U :* D) ∷ [])
      T (D :* (W :* (a3 :* V) :- a1 :* U)) (f1, (ez, (ey, (enx, (ex, tt))))) refl)
      (ring_given laws (env r.c2) ((con 1, T, a2 :* X :+ a0 :* NY) ∷ (a2, X, U :* D) ∷ (a0, NY, :neg Y) ∷ (:neg a0, Y, V :* D) ∷ [])
      T (D :* (a2 :* U :- a0 :* V)) (f2, (ex, (eny, (ey, tt)))) refl)
      (ring_given laws (env r.c3) ((con 1, T, a1 :* Y :+ a3 :* NX2) ∷ (a1, Y, V :* D) ∷ (a3, NX2, :neg X) ∷ (:neg a3, X, U :* D) ∷ [])
      T (D :* (a1 :* V :- a3 :* U)) (f3, (ey, (enx2, (ex, tt)))) refl)
      ∙ ap₂ (λ (p q : A). cofactor_of_parts d p q) eu ev

module _ {A : Type 0} {R : Ring A} (laws : IsCommutativeRing R) (w : A) (a : Quartic A) where
  -- The cofactor times an element of the coefficient ring, as a product with the embedded element.
  pub embedded_cofactor : (n : Quartic A) (d x : A) (r : Quartic A) → n.c1 ≡ R.zero → n.c2 ≡ R.zero → n.c3 ≡ R.zero → x ≡ R.mul n.c0 d → r ≡ quartic_cofactor R w x a
      → r ≡ (quartic_ring R w).mul n (quartic_cofactor R w d a)
  embedded_cofactor n d x r e1 e2 e3 ex er =
      let c = quartic_cofactor R w d a in
      let b = quartic_cofactor R w x a in
      let u = norm_low R w a in
      let v = norm_high R w a in
      let embedded : n ≡ quartic_embed R n.c0 = quartic_same _ _ refl e1 e2 e3 in
      let swap : (p q : A) → p ≡ R.mul n.c0 d → R.mul p q ≡ R.mul (R.mul d q) n.c0 =
      λ p q ep. ring_given laws (p ∷ q ∷ n.c0 ∷ d ∷ []) ((var 1, var 0, var 2 :* var 3) ∷ []) (var 0 :* var 1) (var 3 :* var 1 :* var 2) (ep, tt) refl in
      er
      ∙ quartic_scaled laws w c n.c0 b (swap x _ ex) (swap x _ ex) (swap x _ ex) (swap x _ ex)
      ∙ (quartic_lawful laws w).mul_comm c (quartic_embed R n.c0)
      ∙ ap (λ (q : Quartic A). (quartic_ring R w).mul q c) (sym embedded)
