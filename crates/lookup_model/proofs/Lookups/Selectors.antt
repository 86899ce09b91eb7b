-- Constraints on some rows only: a selector times a left side, and the steps of a running sum.
use Rattle.std.proofs.Common.{◌≡◌, Bool, true, false, [], ◌∷◌, refl, sym, ap, ◌∙◌}
use Rattle.field.specs.Ring.{Ring, IsCommutativeRing, of_bool, sub_in}
use Rattle.field.specs.laws.RingFacts.{mul_zero, one_mul, zero_mul}
use Rattle.field.specs.laws.RingSolver.{var, con, ◌:+◌, ◌:-◌, :neg, ring_given, ring_law}

module _ {K : Type 0} {S : Ring K} (laws : IsCommutativeRing S) where
  -- what is selected is zero where the selector is off, or its left side is zero
  pub selected_zero : (b : Bool) (left : K) → (b ≡ true → left ≡ S.zero) → S.mul (of_bool S b) left ≡ S.zero
  selected_zero true left on = ap (S.mul S.one) (on refl) ∙ mul_zero laws S.one
  selected_zero false left on = zero_mul laws left

  -- what is zero under a selector that is on is zero
  pub zero_selected : (b : Bool) (left : K) → b ≡ true → S.mul (of_bool S b) left ≡ S.zero → left ≡ S.zero
  zero_selected b left on e = sym (one_mul laws left) ∙ ap (λ t. S.mul (of_bool S t) left) (sym on) ∙ e

  -- what is left when the parts of a sum are taken from it
  pub taken_apart : (a b c : K) → c ≡ S.add a b → sub_in S (sub_in S c a) b ≡ S.zero
  taken_apart a b c e =
      ap (λ t. sub_in S (sub_in S t a) b) e
      ∙ ring_law laws (a ∷ b ∷ []) (((var 0 :+ var 1) :+ :neg (var 0)) :+ :neg (var 1)) (con 0) refl

  -- parts that leave nothing of a sum
  pub put_together : (a b c : K) → sub_in S (sub_in S c a) b ≡ S.zero → c ≡ S.add a b
  put_together a b c e =
      ring_given laws (a ∷ b ∷ c ∷ []) ((con 1, (var 2 :- var 0) :- var 1, con 0) ∷ []) (var 2) (var 0 :+ var 1) (e, tt) refl
