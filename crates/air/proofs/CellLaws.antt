-- The cells that variables of a row mean.
use Rattle.std.proofs.Common.{◌≡◌, ◌<◌, ◌+◌, List, [], ◌∷◌, ◌++◌, length, ℕ, None, Some, get_or, slice_get, take, ap, inl, inr, arith, refl, subst, sym, ◌∙◌}
use Rattle.std.proofs.lemmas.List.{take_more}
use Rattle.std.proofs.lemmas.Option.{slice_get_cases, slice_get-map}
use Rattle.std.proofs.lemmas.Slice.Zip.{all_zipped_more}
use Rattle.std.specs.List.{AllZip}
use Rattle.air_expressions.specs.Builder.{MeansRow}
use Rattle.air_expressions.specs.declared.error.AirError.{AirError}
use Rattle.air.specs.Cell.{IsNarrow}

-- what means a variable of a row is, at each window that is stood for, the cell at its index
pub cell_is : {V W A E : Type 0} (stands : W → Type 0) (meaning : V → W → A) (width : ℕ) (cells : W → List A) (variables : List V) (i : ℕ) (v : V) (x : E) (value : E → W → A) → MeansRow stands meaning width cells variables → slice_get variables i ≡ Some v → ((w : W) → value x w ≡ meaning v w)
    → (w : W) → stands w → slice_get (cells w) i ≡ Some (value x w)
cell_is {V} {W} {A} stands meaning width cells variables i v x value row found is w s =
    read ∙ ap Some (sym (is w))
  where
    read : slice_get (cells w) i ≡ Some (meaning v w)
    read = rw (← row.reads w s, slice_get-map, found) refl

-- where a row of variables has none at an index, the row is not longer
pub no_cell : {V W A : Type 0} (stands : W → Type 0) (meaning : V → W → A) (width : ℕ) (cells : W → List A) (variables : List V) (i : ℕ) → MeansRow stands meaning width cells variables → slice_get variables i ≡ None → width < i + 1
no_cell stands meaning width cells variables i row none =
    elim (slice_get_cases variables i).1 [
      | inl found ↦ absurd (cc (sym none ∙ found.2))
      | inr past ↦ omega (arith, past.0, row.len)
    ]

-- so what names the cells that such a row shows is the refusal of a narrow row
pub narrow_row : {V W A : Type 0} (stands : W → Type 0) (meaning : V → W → A) (columns : ℕ) (cells : W → List A) (variables : List V) (i width : ℕ) (shown : List V) (e : AirError) → MeansRow stands meaning columns cells variables → slice_get variables i ≡ None → i < width → shown ≡ variables → (length shown < width → IsNarrow (length shown) width e) → IsNarrow columns width e
narrow_row stands meaning columns cells variables i width shown e row none within same refused =
    let len : length shown ≡ columns = ap length same ∙ row.len in
    let past : columns < i + 1 = no_cell stands meaning columns cells variables i row none in
    subst (λ (n : ℕ). IsNarrow n width e) len (refused (omega (arith, len, past, within)))

-- one more item beside the next one of a list
pub one_more_beside : {A B : Type 0} (P : A → B → Type 0) (xs : List A) (ys : List B) (i : ℕ) (d x : A) (y : B) → AllZip P (take i xs) ys → i < length xs → x ≡ get_or xs i d → P x y → AllZip P (take (i + 1) xs) (ys ++ y ∷ [])
one_more_beside P xs ys i d x y so_far below is here =
    let longer : take (i + 1) xs ≡ take i xs ++ x ∷ [] = take_more xs i d below ∙ ap (λ z. take i xs ++ z ∷ []) (sym is) in
    subst (λ (l : List _). AllZip P l (ys ++ y ∷ [])) (sym longer) (all_zipped_more P (take i xs) ys x y so_far here)
