-- Sums of bits of a list any two of which have the product zero.
use Rattle.std.proofs.Common.{◌≡◌, inl, inr, ℕ, zero, suc, ◌+◌, ◌<◌, ◌≤◌, List, [], ◌∷◌, length, take, get_or, refl, sym, ap, ap₂, subst, ◌∙◌, arith}
use Rattle.list_laws.proofs.Items.{take_item}
use Rattle.field.specs.Ring.{Ring, IsCommutativeRing}
use Rattle.field.specs.laws.RingFacts.{one_mul, zero_add}
use Rattle.field.specs.laws.RingSolver.{var, con, ◌:+◌, ◌:*◌, ring_given}
use Rattle.air_expressions.specs.Meaning.{variable_value}
use Rattle.air_expressions.specs.Window.{Window}
use Rattle.air_expressions.specs.declared.variable.SymbolicVariable.{SymbolicVariable}
use Rattle.air_constraints.specs.Facts.{AreApart, IsBit}
use Rattle.air_constraints.specs.Polynomials.{product_at, sum_at, term_at}
use Rattle.air_constraints.specs.declared.term.Term.{Term}
use Rattle.air_constraints.proofs.SumLaws.{sum-push}

module _ {F : Type 0} {R : Ring F} (laws : IsCommutativeRing R) (w : Window F) where
  -- two cells of such a list, one behind the other
  pub apart-at : (vs : List (SymbolicVariable F)) (i k : ℕ) (d e : SymbolicVariable F) → i < k → k < length vs → AreApart R w vs
      → R.mul (variable_value R w (get_or vs i d)) (variable_value R w (get_or vs k e)) ≡ R.zero
  apart-at [] i k d e before lt apart = absurd (omega (arith, lt))
  apart-at (v ∷ vs) i zero d e before lt apart = absurd (omega (arith, before))
  apart-at (v ∷ vs) zero (suc k) d e before lt apart = apart.0 k e (omega (arith, lt))
  apart-at (v ∷ vs) (suc i) (suc k) d e before lt apart = apart-at vs i k d e (omega (arith, before)) (omega (arith, lt)) apart.1

  -- a bit whose product with each cell from an index on is zero
  abbrev pub IsBitBefore : List (SymbolicVariable F) → ℕ → F → Type 0
  IsBitBefore vs i s =
      IsBit R s × ((k : ℕ) (d : SymbolicVariable F) → i ≤ k → k < length vs → R.mul s (variable_value R w (get_or vs k d)) ≡ R.zero)

  -- a cell that is left out
  pub skipped : (vs : List (SymbolicVariable F)) (i : ℕ) (s : F) → IsBitBefore vs i s → IsBitBefore vs (i + 1) s
  skipped vs i s so_far = (so_far.0, λ k d from lt. so_far.1 k d (omega (arith, from)) lt)

  -- a bit plus one with which it has the product zero
  pub bit-plus : (v s : F) → IsBit R v → R.mul s v ≡ R.zero → IsBit R s → IsBit R (R.add v s)
  bit-plus v s bit none (inl z) =
      let P : F → Type 0 = IsBit R in
      subst P (sym (ap (R.add v) z ∙ laws.add_zero v)) bit
  bit-plus v s bit none (inr o) =
      inr (ap₂ R.add (sym (one_mul laws v) ∙ sym (ap (λ x. R.mul x v) o) ∙ none) o ∙ zero_add laws R.one)

  -- a cell more, which is a bit
  pub taken : (vs : List (SymbolicVariable F)) (i : ℕ) (d : SymbolicVariable F) (v s : F) → i < length vs → v ≡ variable_value R w (get_or vs i d)
      → IsBit R v → AreApart R w vs → IsBitBefore vs i s → IsBitBefore vs (i + 1) (R.add v s)
  taken vs i d v s lt is bit apart so_far = (
    bit-plus v s bit (ap (R.mul s) is ∙ so_far.1 i d (omega arith) lt) so_far.0,
    λ k e from below.
        let u = variable_value R w (get_or vs k e) in
        let here : R.mul v u ≡ R.zero = ap (λ x. R.mul x u) is ∙ apart-at vs i k d e (omega (arith, from)) below apart in
        ring_given laws (v ∷ s ∷ u ∷ []) ((con 1, var 0 :* var 2, con 0) ∷ (con 1, var 1 :* var 2, con 0) ∷ []) ((var 0 :+ var 1) :* var 2) (con 0) (here, (so_far.1 k e (omega (arith, from)) below, tt)) refl,
  )

  -- the sum of a term more
  pub sum-next : (ts : List (Term F)) (i : ℕ) (t : Term F) → i < length ts → t ≡ get_or ts i t
      → sum_at R w (take (i + 1) ts) ≡ R.add (term_at R w t) (sum_at R w (take i ts))
  sum-next ts i t lt is = ap (sum_at R w) (take_item ts i t lt is) ∙ sum-push laws w (take i ts) t

  -- the value of a term that is one cell, once
  pub lone : (t : Term F) (c d : SymbolicVariable F) → t.coefficient ≡ R.one → length t.cells.items ≡ 1 → d ≡ get_or t.cells.items 0 d
      → variable_value R w d ≡ variable_value R w c → term_at R w t ≡ variable_value R w c
  lone t c d one single is same =
      ap₂ R.mul one (product t.cells.items single is) ∙ one_mul laws (variable_value R w d) ∙ same
    where
      product : (vs : List (SymbolicVariable F)) → length vs ≡ 1 → d ≡ get_or vs 0 d → product_at R w vs ≡ variable_value R w d
      product [] one is = absurd (omega (arith, one))
      product (v ∷ []) one is = ap (λ (u : SymbolicVariable F). R.mul (variable_value R w u) R.one) (sym is) ∙ laws.mul_one (variable_value R w d)
      product (v ∷ u ∷ vs) one is = absurd (omega (arith, one))
