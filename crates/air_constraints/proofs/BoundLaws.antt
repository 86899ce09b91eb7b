-- Bounds of whole numbers.
use Rattle.std.proofs.Common.{◌≡◌, inl, inr, ℕ, suc, ◌+◌, ◌<◌, ◌≤◌, ℤ, pos, negsuc, ◌+ℤ◌, ◌-ℤ◌, nat_abs, Bool, true, false, if◌then◌else◌, List, [], ◌∷◌, length, take, get_or, refl, sym, ap, ap₂, subst, ◌∙◌, arith}
use Rattle.std.proofs.lemmas.Int.{ints}
use Rattle.list_laws.proofs.Items.{take_item}
use Rattle.field.specs.Ring.{Ring, IsCommutativeRing, of_int, of_nat, sub_in}
use Rattle.field.specs.laws.RingFacts.{mul_zero, neg_neg, neg_zero, of_nat-add, zero_add}
use Rattle.field.specs.laws.RingSolver.{var, con, :neg, ◌:+◌, ◌:-◌, ring_given, ring_law}
use Rattle.air_expressions.specs.Window.{Window}
use Rattle.air_constraints.specs.Bounds.{IsInRange, IsWithin, Widens, number_of}
use Rattle.air_constraints.specs.Facts.{IsBit}
use Rattle.air_constraints.specs.Polynomials.{product_at, sum_at}
use Rattle.air_constraints.specs.declared.bounds.Range.{Range}
use Rattle.air_constraints.specs.declared.bounds.WholeNumber.{WholeNumber}
use Rattle.air_constraints.specs.declared.term.Term.{Term}
use Rattle.air_constraints.proofs.SumLaws.{sum-push}

-- a difference of two numbers within a bound is within it
pub difference_within : (p n bound : ℕ) → p ≤ bound → n ≤ bound → (z : ℤ) → pos p ≡ z +ℤ pos n → nat_abs z ≤ bound
difference_within p n bound few fewer (pos m) e = omega (arith, ints, e, few)
difference_within p n bound few fewer (negsuc m) e = omega (arith, ints, e, fewer)

module _ {A : Type 0} {R : Ring A} (laws : IsCommutativeRing R) where
  -- a signed number is a difference of two
  difference : (z : ℤ) (p n : ℕ) → pos p ≡ z +ℤ pos n → R.add (of_int R z) (of_nat R n) ≡ of_nat R p
  difference (pos m) p n e = sym (of_nat-add laws m n) ∙ ap (of_nat R) (omega (arith, ints, e))
  difference (negsuc m) p n e =
      let s : p + suc m ≡ n = omega (arith, ints, e) in
      let t : R.add (of_nat R p) (of_nat R (suc m)) ≡ of_nat R n = sym (of_nat-add laws p (suc m)) ∙ ap (of_nat R) s in
      ring_given laws (of_nat R (suc m) ∷ of_nat R n ∷ of_nat R p ∷ []) ((:neg (con 1), var 2 :+ var 0, var 1) ∷ []) (:neg (var 0) :+ var 1) (var 2) (t, tt) refl

  -- nothing is in every range
  pub range-none : (range : Range) (x : A) → x ≡ R.zero → IsInRange R range x
  unfolding of_nat
  range-none range x none = record {
    above = 0;
    below = 0;
    is = none ∙ sym (ap (R.add R.zero) (neg_zero laws) ∙ zero_add laws R.zero);
    up = omega arith;
    down = omega arith;
  }

  -- a number more in a range that has room for it
  with_number : (minus : Bool) (size : ℕ) (range wide : Range) (c s : A) → (wide.up ≡ (if minus then range.up else range.up + size)) × (wide.down ≡ (if minus then range.down + size else range.down))
      → c ≡ (if minus then R.neg (of_nat R size) else of_nat R size) → IsInRange R range s → IsInRange R wide (R.add c s)
  with_number true size range wide c s widens is within = record {
    above = within.above;
    below = size + within.below;
    is = ap₂ R.add is within.is
        ∙ ring_law laws (of_nat R size ∷ of_nat R within.above ∷ of_nat R within.below ∷ []) (:neg (var 0) :+ (var 1 :- var 2)) (var 1 :- (var 0 :+ var 2)) refl
        ∙ ap (sub_in R (of_nat R within.above)) (sym (of_nat-add laws size within.below));
    up = omega (arith, within.up, widens.0);
    down = omega (arith, within.down, widens.1);
  }
  with_number false size range wide c s widens is within = record {
    above = size + within.above;
    below = within.below;
    is = ap₂ R.add is within.is
        ∙ ring_law laws (of_nat R size ∷ of_nat R within.above ∷ of_nat R within.below ∷ []) (var 0 :+ (var 1 :- var 2)) ((var 0 :+ var 1) :- var 2) refl
        ∙ ap (λ x. sub_in R x (of_nat R within.below)) (sym (of_nat-add laws size within.above));
    up = omega (arith, within.up, widens.0);
    down = omega (arith, within.down, widens.1);
  }

  -- the same element in a wider range
  without_number : (minus : Bool) (size : ℕ) (range wide : Range) (s t : A) → (wide.up ≡ (if minus then range.up else range.up + size)) × (wide.down ≡ (if minus then range.down + size else range.down))
      → t ≡ s → IsInRange R range s → IsInRange R wide t
  without_number true size range wide s t widens same within = record {
    above = within.above;
    below = within.below;
    is = same ∙ within.is;
    up = omega (arith, within.up, widens.0);
    down = omega (arith, within.down, widens.1);
  }
  without_number false size range wide s t widens same within = record {
    above = within.above;
    below = within.below;
    is = same ∙ within.is;
    up = omega (arith, within.up, widens.0);
    down = omega (arith, within.down, widens.1);
  }

  -- a number times a bit more
  pub range-more : (range wide : Range) (n : WholeNumber) (c p s : A) → Widens range n wide → c ≡ number_of R n → IsBit R p → IsInRange R range s → IsInRange R wide (R.add (R.mul c p) s)
  range-more range wide n c p s widens is (inl z) within =
      without_number n.minus n.size range wide s (R.add (R.mul c p) s) widens (ap (λ x. R.add (R.mul c x) s) z ∙ ap (λ x. R.add x s) (mul_zero laws c) ∙ zero_add laws s) within
  range-more range wide n c p s widens is (inr o) within =
      with_number n.minus n.size range wide (R.mul c p) s widens (ap (R.mul c) o ∙ laws.mul_one c ∙ is) within

  -- an element in a range is within a bound of both its ends
  pub within-range : (range : Range) (bound : ℕ) (x : A) → range.up ≤ bound → range.down ≤ bound → IsInRange R range x → IsWithin R bound x
  within-range range bound x few fewer within =
      let z = pos within.above -ℤ pos within.below in
      let parts : pos within.above ≡ z +ℤ pos within.below = omega (arith, ints) in
      let e = difference z within.above within.below parts in
      record {
        number = z;
        is = within.is ∙ ring_given laws (of_int R z ∷ of_nat R within.above ∷ of_nat R within.below ∷ []) ((:neg (con 1), var 0 :+ var 2, var 1) ∷ []) (var 1 :- var 2) (var 0) (e, tt) refl;
        most = difference_within within.above within.below bound (omega (arith, within.up, few)) (omega (arith, within.down, fewer)) z parts;
      }

  -- a bit is within one
  pub bit-within : (x : A) → IsBit R x → IsWithin R 1 x
  unfolding of_nat
  bit-within x (inl z) = record { number = pos 0; is = z; most = omega arith }
  bit-within x (inr o) = record { number = pos 1; is = o ∙ sym (laws.add_zero R.one); most = omega arith }

  -- so is what is minus a bit
  pub minus-within : (x y : A) → y ≡ R.neg x → IsBit R y → IsWithin R 1 x
  unfolding of_nat
  minus-within x y e (inl z) = record { number = pos 0; is = sym (neg_neg laws x) ∙ ap R.neg (sym e ∙ z) ∙ neg_zero laws; most = omega arith }
  minus-within x y e (inr o) = record { number = negsuc 0; is = sym (neg_neg laws x) ∙ ap R.neg (sym e ∙ o ∙ sym (laws.add_zero R.one)); most = omega arith }

  module _ (w : Window A) where
    -- the range of one term more
    pub range-term : (range wide : Range) (n : WholeNumber) (ts : List (Term A)) (i : ℕ) (t : Term A) → i < length ts → t ≡ get_or ts i t → Widens range n wide → t.coefficient ≡ number_of R n
        → IsBit R (product_at R w t.cells.items) → IsInRange R range (sum_at R w (take i ts)) → IsInRange R wide (sum_at R w (take (i + 1) ts))
    range-term range wide n ts i t lt is widens number bit so_far =
        let P : A → Type 0 = IsInRange R wide in
        subst P (sym (ap (sum_at R w) (take_item ts i t lt is) ∙ sum-push laws w (take i ts) t)) (range-more range wide n t.coefficient (product_at R w t.cells.items) (sum_at R w (take i ts)) widens number bit so_far)
