-- The constraint of the fraction of one tuple, decided by a product.
use Rattle.std.proofs.Common.{◌≡◌, ◌↔◌, ◌<◌, ◌≤◌, ◌++◌, ◌∷◌, [], ℕ, zero, suc, Bool, true, not, Option, None, Some, List, length, take, get_or, refl, sym, ap, subst, ◌∙◌, arith}
use Rattle.std.proofs.lemmas.List.{get_or-take, get_or_append_left, get_or_default}
use Rattle.std.proofs.lemmas.Option.{get_or_from_slice_get, slice_get_within}
use Rattle.std.specs.List.{AllZip}
use Rattle.std.specs.Option.{is_some}
use Rattle.field.specs.Extension.{Extension}
use Rattle.field.specs.Ring.{IsCommutativeRing}
use Rattle.lookup_columns.specs.ChunkColumns.{IsStored}
use Rattle.lookup_columns.specs.declared.columns.BranchColumns.{BranchColumns}
use Rattle.lookup_model.specs.Constraints.{fraction_left}
use Rattle.lookup_model.specs.Message.{Key, Message}
use Rattle.checker_witness.proofs.FractionLaws.{fraction_decides}
use Rattle.checker_witness.proofs.QuotientSteps.{of_one}
use Rattle.checker_witness.specs.internal.Quotients.{IsQuotientOf, over_tuples}

module _ {A : Type 0} where
  -- what is read of the front of a list that has this front
  pub read_front : (n : ℕ) (front rest : List A) (i : ℕ) (x d : A) → i < length front → i < n → x ≡ get_or (take n (front ++ rest)) i x → x ≡ get_or front i d
  read_front n front rest i x d within below is =
      is ∙ get_or-take n (front ++ rest) i x below ∙ get_or_append_left front rest x i within ∙ get_or_default front i x d within

  -- a list of one item that is read
  pub only_item : (xs : List A) (x : A) → length xs ≡ 1 → x ≡ get_or xs 0 x → xs ≡ x ∷ []
  only_item [] x one is = absurd (omega (arith, one))
  only_item (y ∷ []) x one is = ap (λ t. t ∷ []) (sym is)
  only_item (y ∷ z ∷ xs) x one is = absurd (omega (arith, one))

  pub none_from : (o : Option A) (b : Bool) → is_some o ≡ not b → b ≡ true → o ≡ None
  none_from None b says is = refl
  none_from (Some x) b says is = absurd (cc (says ∙ ap not is))

-- a list with an item at each index below n has n of them
pub long_enough : {A : Type 0} (n : ℕ) (xs : List A) → ((k : ℕ) → k < n → k < length xs) → n ≤ length xs
long_enough zero xs each = omega arith
long_enough (suc n) xs each = omega (arith, each n (omega arith))

-- the index at which one tuple is held is within its columns
pub within_one : {F K : Type 0} (denominator : Key F → K) (index : ℕ) (columns : List (BranchColumns F K)) (branch : BranchColumns F K) (messages : List (Message F)) → columns ≡ branch ∷ []
    → AllZip (IsStored denominator index) columns messages → (index < length branch.multiplicities.items) × (index < length branch.denominators.items)
within_one denominator index [] branch messages are held = absurd (cc are)
within_one denominator index (b ∷ columns) branch [] are held = absurd held
within_one denominator index (b ∷ columns) branch (m ∷ messages) are held =
    let is : b ≡ branch = cc are in (
      subst (λ (t : BranchColumns _ _). index < length t.multiplicities.items) is (slice_get_within b.multiplicities.items index m.multiplicity held.0.0),
      subst (λ (t : BranchColumns _ _). index < length t.denominators.items) is (slice_get_within b.denominators.items index (denominator m.key) held.0.1),
    )

module _ {F K : Type 0} (E : Extension F K) (laws : IsCommutativeRing E.ring) (denominator : List F → K) (index : ℕ) where
  -- where the columns of one tuple are held, its denominator and its multiplicity are the quotient
  pub quotient_of_one : (branch : BranchColumns F K) (messages : List (Message F)) → AllZip (IsStored (over_tuples denominator) index) (branch ∷ []) messages
      → IsQuotientOf E denominator None messages (record { numerator = E.embed (get_or branch.multiplicities.items index E.base.zero); denominator = get_or branch.denominators.items index E.ring.zero })
  quotient_of_one branch [] held = absurd held
  quotient_of_one branch (m ∷ []) held =
      of_one E laws denominator m _
      (ap E.embed (get_or_from_slice_get branch.multiplicities.items index m.multiplicity E.base.zero held.0.0))
      (get_or_from_slice_get branch.denominators.items index (denominator m.key.tuple) E.ring.zero held.0.1)
  quotient_of_one branch (m ∷ n ∷ messages) held = absurd held.1

  -- so the product decides the constraint, at a cell that is the fraction
  pub product_decides : (columns : List (BranchColumns F K)) (branch : BranchColumns F K) (messages : List (Message F)) (given : Option (List F)) (f : K)
      → columns ≡ branch ∷ [] → given ≡ None → AllZip (IsStored (over_tuples denominator) index) columns messages
      → (E.ring.mul (get_or branch.denominators.items index E.ring.zero) f ≡ E.embed (get_or branch.multiplicities.items index E.base.zero)) ↔ (fraction_left E denominator given messages f ≡ E.ring.zero)
  product_decides columns branch messages given f are none held =
      fraction_decides E laws denominator None messages _ (quotient_of_one branch messages (subst (λ (cs : List (BranchColumns F K)). AllZip (IsStored (over_tuples denominator) index) cs messages) are held))
      f given f none refl (λ t. t, λ t. t)
