-- What polynomials say of bits.
use Rattle.std.proofs.Common.{◌≡◌, ◌≢◌, inl, inr, ℕ, ◌+◌, ◌<◌, All, List, [], ◌∷◌, ◌++◌, length, map, take, get_or, refl, sym, ap, ap₂, subst, ◌∙◌, arith}
use Rattle.std.proofs.lemmas.List.{map_push}
use Rattle.std.specs.List.{AllByRecursion}
use Rattle.list_laws.proofs.Each.{All-at, all_both}
use Rattle.list_laws.proofs.Items.{take_item}
use Rattle.field.specs.Ring.{Ring, IsCommutativeRing, IsDomain}
use Rattle.field.specs.laws.RingFacts.{add_left_comm}
use Rattle.field.specs.laws.RingSolver.{var, con, :neg, ◌:+◌, ◌:*◌, ring_given, ring_law}
use Rattle.air_expressions.specs.Window.{Window}
use Rattle.air_constraints.specs.internal.Bits.{sum_of}
use Rattle.air_constraints.specs.Facts.{IsBit}
use Rattle.air_constraints.specs.Polynomials.{sum_at}
use Rattle.air_constraints.specs.declared.term.Term.{Term}

-- of what holds of each item of a list holds of one of a list that is the same
pub item-of-all : {A : Type 0} (P : A → Type 0) (xs ys : List A) (i : ℕ) (x : A) → ys ≡ xs → All P xs → i < length ys → x ≡ get_or ys i x → P x
item-of-all P xs ys i x e all lt is =
    let Q : List _ → Type 0 = λ zs. All P zs in
    All-at P ys i x (subst Q (sym e) all) lt is

module _ {F : Type 0} {R : Ring F} (laws : IsCommutativeRing R) (domain : IsDomain R) where
  -- a sum of no terms
  pub nothing : (w : Window F) (ts : List (Term F)) → length ts ≡ 0 → sum_at R w ts ≡ R.zero
  nothing w [] e = refl
  nothing w (t ∷ ts) e = absurd (omega (arith, e))

  -- what is a multiple of zero, by a factor that is not
  pub multiple_vanishes : (k l q z s d d2 : F) → s ≡ R.zero → k ≢ R.zero → d ≡ R.add (R.mul (R.mul k R.one) q) s → d2 ≡ R.add (R.mul (R.mul l R.one) z) d → d2 ≡ R.zero → z ≡ R.zero → q ≡ R.zero
  multiple_vanishes k l q z s d d2 start nonzero first second none is_zero =
      let product : R.mul k q ≡ R.zero =
      ring_given laws (k ∷ l ∷ q ∷ z ∷ d ∷ d2 ∷ s ∷ [])
      ((:neg (con 1), var 4, (var 0 :* con 1) :* var 2 :+ var 6) ∷ (:neg (con 1), var 5, (var 1 :* con 1) :* var 3 :+ var 4) ∷ (con 1, var 5, con 0) ∷ (:neg (var 1), var 3, con 0) ∷ (:neg (con 1), var 6, con 0) ∷ [])
      (var 0 :* var 2) (con 0) (first, (second, (none, (is_zero, (start, tt))))) refl in
      elim (domain.no_zero_divisors k q product) [ inl e ↦ absurd (nonzero e) | inr e ↦ e ]

  -- an element plus a multiple of zero, as the code finds it
  pub beside : (s s1 s2 i e by z : F) → s ≡ R.zero → i ≡ R.one → s1 ≡ R.add (R.mul (R.mul i R.one) e) s → s2 ≡ R.add (R.mul (R.mul by R.one) z) s1 → z ≡ R.zero → s2 ≡ e
  beside s s1 s2 i e by z start i_is first second is_zero =
      ring_given laws (s ∷ s1 ∷ s2 ∷ i ∷ e ∷ by ∷ z ∷ [])
      ((con 1, var 2, (var 5 :* con 1) :* var 6 :+ var 1) ∷ (var 5, var 6, con 0) ∷ (con 1, var 1, (var 3 :* con 1) :* var 4 :+ var 0) ∷ (var 4, var 3, con 1) ∷ (con 1, var 0, con 0) ∷ [])
      (var 2) (var 4) (second, (is_zero, (first, (i_is, (start, tt))))) refl

  -- the sum with one more at the end
  pub sum-push : (xs : List F) (x : F) → sum_of R (xs ++ x ∷ []) ≡ R.add x (sum_of R xs)
  sum-push [] x = refl
  sum-push (y ∷ xs) x = ap (R.add y) (sum-push xs x) ∙ add_left_comm laws y x (sum_of R xs)

  -- nothing times something, and nothing
  pub none_times : (i p z s : F) → z ≡ R.zero → s ≡ R.zero → R.add (R.mul (R.mul i p) z) s ≡ R.zero
  none_times i p z s none start =
      ap₂ (λ x y. R.add (R.mul (R.mul i p) x) y) none start ∙ ring_law laws (i ∷ p ∷ []) ((var 0 :* var 1) :* con 0 :+ con 0) (con 0) refl

  -- nothing times something more
  pub plus_none : (i p z s : F) → z ≡ R.zero → R.add (R.mul (R.mul i p) z) s ≡ s
  plus_none i p z s none =
      ap (λ x. R.add (R.mul (R.mul i p) x) s) none ∙ ring_law laws (i ∷ p ∷ s ∷ []) ((var 0 :* var 1) :* con 0 :+ var 2) (var 2) refl

  -- one bit more in a sum
  pub bits-more : {A : Type 0} (f : A → F) (xs : List A) (i : ℕ) (x : A) (before after p by : F) → i < length xs → x ≡ get_or xs i x
      → AllByRecursion (λ y. IsBit R (f y)) (take i xs) × (before ≡ sum_of R (map f (take i xs)))
      → p ≡ f x → IsBit R (f x) → by ≡ R.one → after ≡ R.add (R.mul (R.mul by R.one) p) before
      → AllByRecursion (λ y. IsBit R (f y)) (take (i + 1) xs) × (after ≡ sum_of R (map f (take (i + 1) xs)))
  bits-more {A = A} f xs i x before after p by lt is so_far value_is bit by_is step =
      let items : take i xs ++ x ∷ [] ≡ take (i + 1) xs = sym (take_item xs i x lt is) in
      let more : map f (take i xs) ++ f x ∷ [] ≡ map f (take (i + 1) xs) = sym (ap (map f) (take_item xs i x lt is) ∙ map_push f (take i xs) x) in
      let P : List A → Type 0 = AllByRecursion (λ y. IsBit R (f y)) in
      let times : R.add (R.mul (R.mul by R.one) p) before ≡ R.add p before =
      ap (λ b. R.add (R.mul (R.mul b R.one) p) before) by_is ∙ ring_law laws (p ∷ before ∷ []) ((con 1 :* con 1) :* var 0 :+ var 1) (var 0 :+ var 1) refl in (
        subst P items (all_both (λ y. IsBit R (f y)) (take i xs) (x ∷ []) so_far.0 (bit, tt)),
        step ∙ times ∙ ap₂ R.add value_is so_far.1 ∙ sym (sum-push (map f (take i xs)) (f x)) ∙ ap (sum_of R) more,
      )
