-- The rows whose flags are not zero, row by row.
use Rattle.std.proofs.Common.{◌≡◌, ◌≢◌, ℕ, zero, suc, ◌<◌, ◌≤◌, Bool, true, false, cond, not, Some, inl, inr, List, [], ◌∷◌, ◌++◌, length, map, refl, sym, ap, subst, ◌∙◌, arith}
use Rattle.std.proofs.Math.Nat.{eq-or-lt_of_le}
use Rattle.std.proofs.lemmas.List.{length_push}
use Rattle.std.proofs.lemmas.Option.{slice_get_within}
use Rattle.std.specs.List.{filter, slice_get, zip}
use Rattle.field.specs.Ring.{Ring}
use Rattle.lookup_columns.specs.internal.ChunkColumns.{AreSelected, IsSelected, selected_rows}

module _ {A : Type 0} where
  -- an item before the last one
  pub push_before : (xs : List A) (x : A) (j : ℕ) → j < length xs → slice_get (xs ++ x ∷ []) j ≡ slice_get xs j
  push_before [] x j lt = absurd (omega (arith, lt))
  push_before (y ∷ xs) x zero lt = refl
  push_before (y ∷ xs) x (suc j) lt = push_before xs x j (omega (arith, lt))

  -- and the last one
  pub push_last : (xs : List A) (x : A) → slice_get (xs ++ x ∷ []) (length xs) ≡ Some x
  push_last [] x = refl
  push_last (y ∷ xs) x = push_last xs x

module _ {F : Type 0} (R : Ring F) (eq : F → F → Bool) where
  abbrev nonzero : F × ℕ → Bool
  nonzero p = not (eq p.0 R.zero)

  -- one row alone
  selected_alone : (f : F) (r : ℕ) (b : Bool) → map (λ (p : F × ℕ). p.1) (cond (not b) ((f, r) ∷ []) []) ≡ cond b [] (r ∷ [])
  selected_alone f r true = refl
  selected_alone f r false = refl

  -- a row before others
  selected_before : (g : F) (q : ℕ) (b : Bool) (xs ys : List (F × ℕ)) (last : List ℕ) → map (λ (p : F × ℕ). p.1) ys ≡ map (λ (p : F × ℕ). p.1) xs ++ last
      → map (λ (p : F × ℕ). p.1) (cond b ((g, q) ∷ ys) ys) ≡ map (λ (p : F × ℕ). p.1) (cond b ((g, q) ∷ xs) xs) ++ last
  selected_before g q true xs ys last later = ap (λ t. q ∷ t) later
  selected_before g q false xs ys last later = later

  -- one more row, which is among the selected ones unless its flag is zero
  pub selected_push : (fs : List F) (rows : List ℕ) (f : F) (r : ℕ) → length fs ≡ length rows → selected_rows R eq (fs ++ f ∷ []) (rows ++ r ∷ []) ≡ selected_rows R eq fs rows ++ cond (eq f R.zero) [] (r ∷ [])
  selected_push [] [] f r long = selected_alone f r (eq f R.zero)
  selected_push [] (q ∷ rows) f r long = absurd (omega (arith, long))
  selected_push (g ∷ fs) [] f r long = absurd (omega (arith, long))
  selected_push (g ∷ fs) (q ∷ rows) f r long =
      selected_before g q (nonzero (g, q)) (filter nonzero (zip fs rows)) (filter nonzero (zip (fs ++ f ∷ []) (rows ++ r ∷ []))) (cond (eq f R.zero) [] (r ∷ []))
      (selected_push fs rows f r (omega (arith, long)))

module _ {F : Type 0} (R : Ring F) (fs : List F) (rows indices selected : List ℕ) (f : F) (r : ℕ) (flags_long : length fs ≡ length rows) (indices_long : length indices ≡ length rows) (so_far : AreSelected R fs rows indices selected) where
  -- a row before the last one
  module _ (more : List ℕ) (n : ℕ) (kept : (at q : ℕ) → slice_get selected at ≡ Some q → slice_get more at ≡ Some q) where
    before : (j q : ℕ) (g : F) → slice_get (rows ++ r ∷ []) j ≡ Some q → slice_get (fs ++ f ∷ []) j ≡ Some g → g ≢ R.zero → j < length rows → IsSelected (indices ++ n ∷ []) more j q
    before j q g row_there flag_there set lt =
        let old = so_far.at j q g (sym (push_before rows r j lt) ∙ row_there) (sym (push_before fs f j (omega (arith, lt, flags_long))) ∙ flag_there) set in
        record {
          at = old.at;
          there = push_before indices n j (omega (arith, lt, indices_long)) ∙ old.there;
          selected_there = kept old.at q old.selected_there;
        }

    -- one more row, which is a selected one if its flag is not zero
    pub selected_by : (f ≢ R.zero → IsSelected (indices ++ n ∷ []) more (length rows) r) → AreSelected R (fs ++ f ∷ []) (rows ++ r ∷ []) (indices ++ n ∷ []) more
    selected_by last = record {
      at = λ j q g row_there flag_there set.
          elim (eq-or-lt_of_le (below j q row_there)) [
            | inl same ↦
                let here : j ≡ length rows = omega (arith, same) in
                let row_is : Some r ≡ Some q = sym (push_last rows r) ∙ ap (slice_get (rows ++ r ∷ [])) (sym here) ∙ row_there in
                let flag_is : Some f ≡ Some g = sym (push_last fs f) ∙ ap (slice_get (fs ++ f ∷ [])) (flags_long ∙ sym here) ∙ flag_there in
                subst (λ k. IsSelected (indices ++ n ∷ []) more k q) (sym here)
                (subst (IsSelected (indices ++ n ∷ []) more (length rows)) (cc row_is) (last (λ e. set (sym (cc flag_is) ∙ e))))
            | inr lt ↦ before j q g row_there flag_there set (omega (arith, lt))
          ];
    }
      where
        below : (j q : ℕ) → slice_get (rows ++ r ∷ []) j ≡ Some q → suc j ≤ suc (length rows)
        below j q there = omega (arith, slice_get_within (rows ++ r ∷ []) j q there, length_push rows r)

  -- a row whose flag is zero
  pub selected_skipped : (n : ℕ) → f ≡ R.zero → AreSelected R (fs ++ f ∷ []) (rows ++ r ∷ []) (indices ++ n ∷ []) selected
  selected_skipped n unset = selected_by selected n (λ at q there. there) (λ set. absurd (set unset))

  -- a row whose flag is not zero
  pub selected_more : (n : ℕ) → n ≡ length selected → AreSelected R (fs ++ f ∷ []) (rows ++ r ∷ []) (indices ++ n ∷ []) (selected ++ r ∷ [])
  selected_more n n_is =
      selected_by (selected ++ r ∷ []) n
      (λ at q there. push_before selected r at (slice_get_within selected at q there) ∙ there)
      (λ set. record {
        at = n;
        there = ap (slice_get (indices ++ n ∷ [])) (sym indices_long) ∙ push_last indices n;
        selected_there = ap (slice_get (selected ++ r ∷ [])) n_is ∙ push_last selected r;
      })
