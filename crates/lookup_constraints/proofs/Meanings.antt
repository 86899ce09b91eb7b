-- Expressions that are made of others, and what they mean at the windows of a builder.
use Rattle.std.proofs.Common.{◌≡◌, ℕ, ◌≤◌, refl, ◌∙◌, arith}
use Rattle.field.specs.Ring.{Ring, sub_in}
use Rattle.air_expressions.specs.Window.{ExtWindow}
use Rattle.lookup_constraints.specs.Asserted.{IsConstraint}
use Rattle.lookup_constraints.specs.declared.exclusive.Selection.{Selection}
use Rattle.lookup_constraints.specs.declared.quotient.Quotient.{Quotient}
use Rattle.lookup_constraints.specs.internal.Meanings.{Meaning, Means, constant, meaning_of, minus, plus, times}
use Rattle.lookup_constraints.specs.internal.Quotients.{IsQuotient, plus_fraction, quotient_meaning}
use Rattle.lookup_constraints.specs.internal.Selections.{IsSelection, plus_branch, selected_quotient, selection_meaning}

-- an expression has this meaning at some windows, and at most this degree
abbrev pub On : {F K X : Type 0} → (X → ExtWindow F K → K) → (X → ℕ → ℕ) → (ExtWindow F K → Type 0) → Meaning (ExtWindow F K) K → X → Type 0
On value degree stands m = IsConstraint value degree stands (record { meaning = m.means; degree = m.degree })

module _ {F K X S : Type 0} (R : Ring K) (value : X → S → K) (degree : X → ℕ → ℕ) (seen : ExtWindow F K → S) (stands : ExtWindow F K → Type 0) where
  -- a meaning is another one at these windows, and its degree is at most that one's
  pub record Refines (m : Meaning S K) (n : Meaning (ExtWindow F K) K) : Type 0 where
    pub same : (w : ExtWindow F K) → stands w → m.means (seen w) ≡ n.means w
    pub below : (t : ℕ) → m.degree t ≤ n.degree t

  -- so an expression with the one meaning has the other
  means_on : {m : Meaning S K} {n : Meaning (ExtWindow F K) K} (x : X) → Refines m n → Means value degree m x → On (λ y w. value y (seen w)) degree stands n x
  means_on x refines is = record { means = λ w s. is.means (seen w) ∙ refines.same w s; within = λ t. omega (arith, is.degree_is t, refines.below t) }

  -- what an expression means refines each meaning that it has
  has_meaning : (n : Meaning (ExtWindow F K) K) (x : X) → On (λ y w. value y (seen w)) degree stands n x → Refines (meaning_of value degree x) n
  has_meaning n x is = record { same = is.means; below = is.within }

  itself : (x : X) → Refines (meaning_of value degree x) (meaning_of (λ y w. value y (seen w)) degree x)
  itself x = record { same = λ w s. refl; below = λ t. omega arith }

  constant_refines : (k : K) → Refines (constant k) (constant k)
  constant_refines k = record { same = λ w s. refl; below = λ t. omega arith }

  plus_refines : {a b : Meaning S K} {c d : Meaning (ExtWindow F K) K} → Refines a c → Refines b d → Refines (plus R a b) (plus R c d)
  plus_refines p q = record { same = λ w s i. R.add (p.same w s i) (q.same w s i); below = λ t. omega (arith, p.below t, q.below t) }

  minus_refines : {a b : Meaning S K} {c d : Meaning (ExtWindow F K) K} → Refines a c → Refines b d → Refines (minus R a b) (minus R c d)
  minus_refines p q = record { same = λ w s i. sub_in R (p.same w s i) (q.same w s i); below = λ t. omega (arith, p.below t, q.below t) }

  times_refines : {a b : Meaning S K} {c d : Meaning (ExtWindow F K) K} → Refines a c → Refines b d → Refines (times R a b) (times R c d)
  times_refines p q = record { same = λ w s i. R.mul (p.same w s i) (q.same w s i); below = λ t. omega (arith, p.below t, q.below t) }

  module _ (numerator denominator : Meaning (ExtWindow F K) K) (n d : X) (n_is : On (λ y w. value y (seen w)) degree stands numerator n) (d_is : On (λ y w. value y (seen w)) degree stands denominator d) where
    -- a quotient plus a fraction of such a numerator and denominator
    pub plus_fraction_on : (q r : Quotient X) → IsQuotient (Means value degree) (plus_fraction R (quotient_meaning (meaning_of value degree) q) (meaning_of value degree n) (meaning_of value degree d)) r
        → IsQuotient (On (λ y w. value y (seen w)) degree stands) (plus_fraction R (quotient_meaning (meaning_of (λ y w. value y (seen w)) degree) q) numerator denominator) r
    plus_fraction_on q r is = record {
      numerator = means_on r.numerator (plus_refines (times_refines (itself q.numerator) (has_meaning denominator d d_is)) (times_refines (has_meaning numerator n n_is) (itself q.denominator))) is.numerator;
      denominator = means_on r.denominator (times_refines (itself q.denominator) (has_meaning denominator d d_is)) is.denominator;
    }

    -- sums with one more branch of such a flag, numerator and denominator
    pub plus_branch_on : (flag : Meaning (ExtWindow F K) K) (f : X) → On (λ y w. value y (seen w)) degree stands flag f → (s r : Selection X) → IsSelection (Means value degree) (plus_branch R (selection_meaning (meaning_of value degree) s) (meaning_of value degree f) (meaning_of value degree n) (meaning_of value degree d)) r
        → IsSelection (On (λ y w. value y (seen w)) degree stands) (plus_branch R (selection_meaning (meaning_of (λ y w. value y (seen w)) degree) s) flag numerator denominator) r
    plus_branch_on flag f f_is s r is = record {
      numerator = means_on r.numerator (plus_refines (itself s.numerator) (times_refines (has_meaning flag f f_is) (has_meaning numerator n n_is))) is.numerator;
      denominator = means_on r.denominator (plus_refines (itself s.denominator) (times_refines (has_meaning flag f f_is) (has_meaning denominator d d_is))) is.denominator;
      flags = means_on r.flags (plus_refines (itself s.flags) (has_meaning flag f f_is)) is.flags;
    }

  -- the quotient of sums of such meanings
  pub selected_quotient_on : (sums : Selection (Meaning (ExtWindow F K) K)) (s : Selection X) (r : Quotient X) → IsSelection (On (λ y w. value y (seen w)) degree stands) sums s → IsQuotient (Means value degree) (selected_quotient R (selection_meaning (meaning_of value degree) s)) r → IsQuotient (On (λ y w. value y (seen w)) degree stands) (selected_quotient R sums) r
  selected_quotient_on sums s r sums_are is = record {
    numerator = means_on r.numerator (has_meaning sums.numerator s.numerator sums_are.numerator) is.numerator;
    denominator = means_on r.denominator (plus_refines (has_meaning sums.denominator s.denominator sums_are.denominator) (minus_refines (constant_refines R.one) (has_meaning sums.flags s.flags sums_are.flags))) is.denominator;
  }

  -- the left side of an equation `to = from + sum`, of expressions with such meanings
  pub step_equation_on : (to from sum : Meaning (ExtWindow F K) K) (x y z r : X) → On (λ v w. value v (seen w)) degree stands to x → On (λ v w. value v (seen w)) degree stands from y → On (λ v w. value v (seen w)) degree stands sum z
      → Means value degree (minus R (minus R (meaning_of value degree x) (meaning_of value degree y)) (meaning_of value degree z)) r → On (λ v w. value v (seen w)) degree stands (minus R (minus R to from) sum) r
  step_equation_on to from sum x y z r x_is y_is z_is is =
      means_on r (minus_refines (minus_refines (has_meaning to x x_is) (has_meaning from y y_is)) (has_meaning sum z z_is)) is
