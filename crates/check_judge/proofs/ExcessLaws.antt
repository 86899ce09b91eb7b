-- Messages of which nothing is said, and AIRs of whose counts nothing is found.
use Rattle.std.proofs.Common.{◌≡◌, ◌↔◌, ◌<◌, ◌≤◌, ℕ, zero, suc, All, Bool, IfSome, IsTrue, List, [], ◌∷◌, Option, None, Some, length, slice_get, refl, subst, sym, arith}
use Rattle.std.proofs.lemmas.List.Elements.{All-cons, All-head, All-nil, All-tail}
use Rattle.std.specs.List.{AllZip}
use Rattle.std.specs.declared.alloc.Global.{Global}
use Rattle.std.specs.declared.vec.Vec.{Vec}
use Rattle.field.specs.Ring.{Ring}
use Rattle.air.specs.Traces.{AirTraces, height_of, window_of}
use Rattle.lookup_model.specs.declared.types.Lookup.{Lookup}
use Rattle.check_judge.specs.Constraints.{Constrained}
use Rattle.check_judge.specs.Counts.{counts_for}
use Rattle.check_judge.specs.Excesses.{AllStayWithin, AreExcesses, CountsMore, IsExcessFound, IsWithin, StaysWithin, most_of}
use Rattle.check_judge.specs.declared.counts.SaidCount.{SaidCount}
use Rattle.check_judge.specs.declared.excess.Excess.{Excess}

-- past its end a list has no item
none_past : {A : Type 0} (xs : List A) (i : ℕ) → length xs ≤ i → slice_get xs i ≡ None
none_past [] i past = refl
none_past (x ∷ xs) zero past = absurd (omega (arith, past))
none_past (x ∷ xs) (suc i) past = none_past xs i (omega (arith, past))

-- a message of which nothing is said counts no more than is said
pub within_past : {F : Type 0} (p : ℕ) (number : F → ℕ) (R : Ring F) (eq : F → F → Bool) (traces : AirTraces F) (lookup : Lookup F) (counts : List SaidCount) (message : ℕ) → length counts ≤ message
    → IsWithin p number R eq traces lookup counts message
within_past {F} p number R eq traces lookup counts message past =
    subst (λ (o : Option SaidCount). IfSome (most_of o) (λ bound. (r : ℕ) (count : F) → r < height_of traces → ¬ CountsMore p number R eq (window_of traces r) lookup message bound count)) (sym (none_past counts message past)) tt

-- of two lists side by side all items of one are so exactly if those of the other are
all_exactly : {A B : Type 0} (P : A → Type 0) (Q : B → Type 0) (Found : A → B → Type 0) → ((a : A) (b : B) → Found a b → Q b ↔ P a) → (xs : List A) (ys : List B) → AllZip Found xs ys → All Q ys ↔ All P xs
all_exactly P Q Found both [] [] z = (λ q. All-nil P, λ p. All-nil Q)
all_exactly P Q Found both [] (y ∷ ys) z = absurd z
all_exactly P Q Found both (x ∷ xs) [] z = absurd z
all_exactly P Q Found both (x ∷ xs) (y ∷ ys) z =
    let here = both x y z.0 in
    let later = all_exactly P Q Found both xs ys z.1 in (
      λ q. All-cons P x xs (here.0 (All-head Q y ys q)) (later.0 (All-tail Q y ys q)),
      λ p. All-cons Q y ys (here.1 (All-head P x xs p)) (later.1 (All-tail P x xs p)),
    )

module _ {F : Type 0} (p : ℕ) (number : F → ℕ) (R : Ring F) (eq : F → F → Bool) where
  -- nothing is found of a lookup exactly if its messages count no more than is said
  none_exactly : (traces : AirTraces F) (lookup : Lookup F) (counts : List SaidCount) (found : Option (Excess F)) → IsExcessFound p number R eq traces lookup counts found
      → found ≡ None ↔ ((message : ℕ) → IsWithin p number R eq traces lookup counts message)
  none_exactly traces lookup counts None is = (λ none. is, λ within. refl)
  none_exactly traces lookup counts (Some e) is = (
    λ none. subst (IsExcessFound p number R eq traces lookup counts) none is,
    λ within. absurd (subst (λ (o : Option ℕ). IfSome o (λ bound. (r : ℕ) (count : F) → r < height_of traces → ¬ CountsMore p number R eq (window_of traces r) lookup e.message bound count)) is.said (within e.message) e.row e.count is.is.row_exists is.is.more),
  )

  -- nothing is found of any lookup of an AIR exactly if its messages count no more than is said
  air_exactly : (x : Constrained F) (found : Vec (Option (Excess F)) Global) → AreExcesses p number R eq x found.items → All (λ e. e ≡ None) found.items ↔ StaysWithin p number R eq x
  air_exactly x found is = all_exactly (λ lookup. (message : ℕ) → IsWithin p number R eq x.traces lookup (counts_for x.counts lookup.column) message) (λ (e : Option (Excess F)). e ≡ None)
      (λ lookup e. IsExcessFound p number R eq x.traces lookup (counts_for x.counts lookup.column) e) (λ lookup e. none_exactly x.traces lookup (counts_for x.counts lookup.column) e) x.lookups found.items is

  -- so it is of all AIRs
  pub within_exactly : (xs : List (Constrained F)) (found : List (Vec (Option (Excess F)) Global)) (within : Bool) → AllZip (λ x f. AreExcesses p number R eq x f.items) xs found
      → IsTrue within ↔ All (λ (f : Vec (Option (Excess F)) Global). All (λ e. e ≡ None) f.items) found → IsTrue within ↔ AllStayWithin p number R eq xs
  within_exactly xs found within is both =
      let exactly = all_exactly (StaysWithin p number R eq) (λ (f : Vec (Option (Excess F)) Global). All (λ e. e ≡ None) f.items) (λ x f. AreExcesses p number R eq x f.items) air_exactly xs found is in
      (λ t. exactly.0 (both.0 t), λ w. both.1 (exactly.1 w))
