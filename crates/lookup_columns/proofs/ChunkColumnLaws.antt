-- What stands at one index of the columns of lookups.
use Rattle.std.proofs.Common.{◌≡◌, ℕ, zero, suc, ◌+◌, ◌<◌, ◌≤◌, Some, List, [], ◌∷◌, All, map, sym, ap, subst, ◌∙◌, arith}
use Rattle.std.proofs.lemmas.Option.{slice_get-map}
use Rattle.std.specs.List.{AllZip, range_with_len, slice_get}
use Rattle.std.specs.Option.{option_map}

module _ {A B : Type 0} (Q : A → B → Type 0) where
  -- a relation that follows from another
  pub zip_weaker : (P : A → B → Type 0) → ((x : A) (y : B) → P x y → Q x y) → (xs : List A) (ys : List B) → AllZip P xs ys → AllZip Q xs ys
  zip_weaker P weaker [] [] h = tt
  zip_weaker P weaker [] (y ∷ ys) h = absurd h
  zip_weaker P weaker (x ∷ xs) [] h = absurd h
  zip_weaker P weaker (x ∷ xs) (y ∷ ys) h = (weaker x y h.0, zip_weaker P weaker xs ys h.1)

-- an item of a column
pub mapped_there : {A B : Type 0} (f : A → B) (xs : List A) (ys : List B) (i : ℕ) (x : A) → ys ≡ map f xs → slice_get xs i ≡ Some x → slice_get ys i ≡ Some (f x)
mapped_there f xs ys i x are is = ap (λ l. slice_get l i) are ∙ slice_get-map f xs i ∙ ap (option_map f) is

-- all numbers of a range are below its end
pub range_below : (a n h : ℕ) (ns : List ℕ) → ns ≡ range_with_len a n → a + n ≤ h → All (λ r. r < h) ns
range_below a n h ns are le = subst (λ (l : List ℕ). All (λ r. r < h) l) (sym are) (below a n le)
  where
    below : (a n : ℕ) → a + n ≤ h → All (λ r. r < h) (range_with_len a n)
    below a zero le k d lt = absurd (omega (arith, lt))
    below a (suc n) le zero d lt = omega (arith, le)
    below a (suc n) le (suc k) d lt = below (a + 1) n (omega (arith, le)) k d (omega (arith, lt))
