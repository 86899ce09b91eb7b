-- Sums of terms.
use Rattle.std.proofs.Common.{◌≡◌, ℕ, zero, suc, ◌+◌, ◌<◌, List, [], ◌∷◌, ◌++◌, length, take, get_or, refl, sym, ap, ap₂, ◌∙◌, arith}
use Rattle.std.specs.List.{insert, remove}
use Rattle.list_laws.proofs.Items.{take_item}
use Rattle.field.specs.Ring.{Ring, IsCommutativeRing}
use Rattle.field.specs.laws.RingFacts.{add_left_comm, mul_swap, mul_zero, zero_mul, one_mul, zero_add}
use Rattle.field.specs.laws.RingSolver.{var, ◌:+◌, ◌:*◌, ring_law}
use Rattle.air_expressions.specs.Window.{Window}
use Rattle.air_constraints.specs.declared.term.Term.{Term}
use Rattle.air_constraints.specs.Polynomials.{product_at, sum_at, term_at}
use Rattle.air_constraints.proofs.ProductLaws.{item_same}

module _ {F : Type 0} {R : Ring F} (laws : IsCommutativeRing R) (w : Window F) where
  -- one more term, anywhere
  pub sum-insert : (ts : List (Term F)) (i : ℕ) (t : Term F) → sum_at R w (insert ts i t) ≡ R.add (term_at R w t) (sum_at R w ts)
  sum-insert [] zero t = refl
  sum-insert [] (suc i) t = refl
  sum-insert (u ∷ ts) zero t = refl
  sum-insert (u ∷ ts) (suc i) t =
      ap (R.add (term_at R w u)) (sum-insert ts i t) ∙ add_left_comm laws (term_at R w u) (term_at R w t) (sum_at R w ts)

  -- one more term, at the end
  pub sum-push : (ts : List (Term F)) (t : Term F) → sum_at R w (ts ++ t ∷ []) ≡ R.add (term_at R w t) (sum_at R w ts)
  sum-push [] t = refl
  sum-push (u ∷ ts) t =
      ap (R.add (term_at R w u)) (sum-push ts t) ∙ add_left_comm laws (term_at R w u) (term_at R w t) (sum_at R w ts)

  -- a term taken out
  pub sum-remove : (ts : List (Term F)) (i : ℕ) (t : Term F) → i < length ts → t ≡ get_or ts i t → sum_at R w ts ≡ R.add (term_at R w t) (sum_at R w (remove ts i))
  sum-remove [] i t lt is = absurd (omega (arith, lt))
  sum-remove (u ∷ ts) zero t lt is = ap (λ (x : Term F). R.add (term_at R w x) (sum_at R w ts)) (sym is)
  sum-remove (u ∷ ts) (suc i) t lt is =
      ap (R.add (term_at R w u)) (sum-remove ts i t (omega (arith, lt)) is) ∙ add_left_comm laws (term_at R w u) (term_at R w t) (sum_at R w (remove ts i))

  -- two terms of the same product as one
  pub joined : (a b c p q s before : F) → c ≡ R.add a b → p ≡ q → before ≡ R.add (R.mul a p) s → R.add (R.mul c p) s ≡ R.add (R.mul b q) before
  joined a b c p q s before sum same is =
      let B = var 1 in
      ap (λ x. R.add (R.mul x p) s) sum
      ∙ ring_law laws (a ∷ b ∷ p ∷ s ∷ []) ((var 0 :+ B) :* var 2 :+ var 3) (B :* var 2 :+ (var 0 :* var 2 :+ var 3)) refl
      ∙ ap₂ (λ x y. R.add (R.mul b x) y) same (sym is)

  -- the multiple of one term more
  pub multiple-more : (m : F) (ts : List (Term F)) (i : ℕ) (t : Term F) (first before after : F) → i < length ts → t ≡ get_or ts i t
      → before ≡ R.add (R.mul m (sum_at R w (take i ts))) first → after ≡ R.add (R.mul m (term_at R w t)) before
      → after ≡ R.add (R.mul m (sum_at R w (take (i + 1) ts))) first
  multiple-more m ts i t first before after lt is so_far step =
      let more : sum_at R w (take (i + 1) ts) ≡ R.add (term_at R w t) (sum_at R w (take i ts)) = ap (sum_at R w) (take_item ts i t lt is) ∙ sum-push (take i ts) t in
      step ∙ ap (R.add (R.mul m (term_at R w t))) so_far
      ∙ ring_law laws (m ∷ term_at R w t ∷ sum_at R w (take i ts) ∷ first ∷ []) (var 0 :* var 1 :+ (var 0 :* var 2 :+ var 3)) (var 0 :* (var 1 :+ var 2) :+ var 3) refl
      ∙ ap (λ s. R.add (R.mul m s) first) (sym more)

  -- a multiple of a term, its product made
  pub multiple-made : (a p c q d r s : F) → d ≡ R.mul a c → r ≡ R.mul p q → R.add (R.mul d r) s ≡ R.add (R.mul (R.mul a p) (R.mul c q)) s
  multiple-made a p c q d r s d_is r_is =
      ap (λ x. R.add x s) (ap₂ R.mul d_is r_is ∙ mul_swap laws a c p q)

  -- a multiple of a term whose product is zero
  pub multiple-zero : (a p c q s : F) → R.mul p q ≡ R.zero → s ≡ R.add (R.mul (R.mul a p) (R.mul c q)) s
  multiple-zero a p c q s none =
      sym (ap (λ x. R.add x s) (mul_swap laws a p c q ∙ ap (R.mul (R.mul a c)) none ∙ mul_zero laws (R.mul a c)) ∙ zero_add laws s)

  -- the product with one term more of the first sum
  pub product-more : (ts : List (Term F)) (i : ℕ) (t : Term F) (s before after : F) → i < length ts → t ≡ get_or ts i t
      → before ≡ R.mul (sum_at R w (take i ts)) s → after ≡ R.add (R.mul (term_at R w t) s) before
      → after ≡ R.mul (sum_at R w (take (i + 1) ts)) s
  product-more ts i t s before after lt is so_far step =
      let more : sum_at R w (take (i + 1) ts) ≡ R.add (term_at R w t) (sum_at R w (take i ts)) = ap (sum_at R w) (take_item ts i t lt is) ∙ sum-push (take i ts) t in
      step ∙ ap (R.add (R.mul (term_at R w t) s)) so_far
      ∙ ring_law laws (term_at R w t ∷ sum_at R w (take i ts) ∷ s ∷ []) (var 0 :* var 2 :+ var 1 :* var 2) ((var 0 :+ var 1) :* var 2) refl
      ∙ ap (λ x. R.mul x s) (sym more)

  -- a term that joins one of the same cells
  pub taken : (ts : List (Term F)) (i : ℕ) (old seen t : Term F) (sum : F) → i < length ts → old ≡ get_or ts i old → seen ≡ get_or ts i seen
      → product_at R w seen.cells.items ≡ product_at R w t.cells.items → sum ≡ R.add old.coefficient t.coefficient
      → R.add (R.mul sum (product_at R w old.cells.items)) (sum_at R w (remove ts i)) ≡ R.add (term_at R w t) (sum_at R w ts)
  taken ts i old seen t sum lt old_is seen_is same sum_is =
      let one : old ≡ seen = old_is ∙ item_same ts i old seen lt ∙ sym seen_is in
      joined old.coefficient t.coefficient sum (product_at R w old.cells.items) (product_at R w t.cells.items) (sum_at R w (remove ts i)) (sum_at R w ts)
      sum_is (ap (λ (x : Term F). product_at R w x.cells.items) one ∙ same) (sum-remove ts i old lt old_is)

  -- the same, where both cancel
  pub taken_zero : (ts : List (Term F)) (i : ℕ) (old seen t : Term F) (sum : F) → i < length ts → old ≡ get_or ts i old → seen ≡ get_or ts i seen
      → product_at R w seen.cells.items ≡ product_at R w t.cells.items → sum ≡ R.add old.coefficient t.coefficient → sum ≡ R.zero
      → sum_at R w (remove ts i) ≡ R.add (term_at R w t) (sum_at R w ts)
  taken_zero ts i old seen t sum lt old_is seen_is same sum_is none =
      let p = product_at R w old.cells.items in
      let s = sum_at R w (remove ts i) in
      let nothing : R.add (R.mul sum p) s ≡ s = ap (λ x. R.add (R.mul x p) s) none ∙ ap (λ x. R.add x s) (zero_mul laws p) ∙ zero_add laws s in
      sym nothing ∙ taken ts i old seen t sum lt old_is seen_is same sum_is

  -- a multiple of nothing adds nothing
  pub multiple-none : (x before : F) → before ≡ R.add (R.mul x R.zero) before
  multiple-none x before = sym (ap (λ y. R.add y before) (mul_zero laws x) ∙ zero_add laws before)

  -- one term more, its value once
  pub sum-more : (ts : List (Term F)) (i : ℕ) (t : Term F) (by p before after : F) → i < length ts → t ≡ get_or ts i t
      → before ≡ sum_at R w (take i ts) → by ≡ R.one → p ≡ term_at R w t → after ≡ R.add (R.mul by p) before
      → after ≡ sum_at R w (take (i + 1) ts)
  sum-more ts i t by p before after lt is so_far by_is p_is step =
      step ∙ ap₂ R.add (ap₂ R.mul by_is p_is ∙ one_mul laws (term_at R w t)) so_far
      ∙ sym (ap (sum_at R w) (take_item ts i t lt is) ∙ sum-push (take i ts) t)
