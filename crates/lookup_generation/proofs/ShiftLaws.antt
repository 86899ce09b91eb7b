-- Rows are shifted one by one, in place.
use Rattle.std.proofs.Common.{◌≡◌, ℕ, zero, suc, ◌+◌, ◌-◌, ◌*◌, ◌<◌, List, ◌∷◌, ◌++◌, append_assoc, length, take, drop, get_or, set, refl, sym, ap, ◌∙◌, arith}
use native.Mathlib.Nat.{mul_comm}
use Rattle.std.proofs.Math.Seq.{get_or-append_seam}
use Rattle.std.proofs.lemmas.List.{drop-drop, drop_more, length-append, length-drop, length-take, set_at, take-append-drop}
use Rattle.std.proofs.lemmas.Nat.{mul-add-lt}
use Rattle.std.specs.List.{flat_map, range_with_len}
use Rattle.field.specs.Ring.{Ring}
use Rattle.list_laws.proofs.Parts.{flat_more}
use Rattle.lookup_generation.proofs.ProgressLaws.{product_more}
use Rattle.lookup_generation.specs.Ranges.{shifted_row}
use Rattle.matrix.specs.Matrix.{IsShaped, Matrix, height, row}

module _ {K : Type 0} (S : Ring K) (offset : K) (xs : List K) (width : ℕ) where
  abbrev matrix : Matrix K
  matrix = record { values = xs; width = width }

  abbrev row_at : ℕ → List K
  row_at r = shifted_row S offset (row matrix r)

  -- the first i rows are shifted, the others are as they were
  pub record AreShifted (i : ℕ) (cells : List K) : Type 0 where
    pub cells_are : cells ≡ flat_map row_at (range_with_len 0 i) ++ drop (i * width) xs
    pub long : length (flat_map row_at (range_with_len 0 i)) ≡ i * width

  -- one more is shifted
  pub shifted_more : (cells : List K) (i : ℕ) (x y : K) → IsShaped matrix → i < height matrix → x ≡ get_or cells (i * width) x → y ≡ S.add offset x → AreShifted i cells → AreShifted (i + 1) (set cells (i * width) y)
  shifted_more cells i x y shape lt is sum before = by_width width refl
    where
      by_width : (w : ℕ) → width ≡ w → AreShifted (i + 1) (set cells (i * width) y)
      by_width zero none = absurd (omega (arith, lt, ap (λ w. height (record { values = xs; width = w })) none))
      by_width (suc v) wide =
          let front = flat_map row_at (range_with_len 0 i) in
          let step : (i + 1) * width ≡ i * width + width = sym (product_more i width) in
          let below : i * width + v < width * height matrix = mul-add-lt i width v (height matrix) lt (omega (arith, wide)) in
          let room : i * width + v < length xs = omega (arith, below, mul_comm width (height matrix), shape) in
          let z = get_or xs (i * width) x in
          let tail = drop (i * width + 1) xs in
          let here : drop (i * width) xs ≡ z ∷ tail = drop_more xs (i * width) x (omega (arith, room)) in
          let are : cells ≡ front ++ z ∷ tail = before.cells_are ∙ ap (λ t. front ++ t) here in
          let same : x ≡ z = is ∙ ap (λ c. get_or c (i * width) x) are ∙ ap (λ k. get_or (front ++ z ∷ tail) k x) (sym before.long) ∙ get_or-append_seam front z tail x in
          let size : (i + 1) * width - i * width ≡ suc v = omega (arith, step, wide) in
          let this : row_at i ≡ y ∷ take v tail =
          ap (λ k. shifted_row S offset (take k (drop (i * width) xs))) size ∙ ap (λ t. shifted_row S offset (take (suc v) t)) here ∙ (λ k. (ap (S.add offset) (sym same) ∙ sym sum) k ∷ take v tail) in
          let rest : (i + 1) * width ≡ i * width + 1 + v = omega (arith, step, wide) in
          let left : drop ((i + 1) * width) xs ≡ drop v tail = ap (λ k. drop k xs) rest ∙ sym (drop-drop v (i * width + 1) xs) in
          let others : length (take v tail) ≡ v = length-take v tail ∙ omega (arith, room, length-drop (i * width + 1) xs) in
          record {
            cells_are =
                ap (λ c. set c (i * width) y) are ∙ set_at front z tail y (i * width) before.long
                ∙ ap (λ t. front ++ y ∷ t) (sym (take-append-drop v tail))
                ∙ sym (append_assoc front (y ∷ take v tail) (drop v tail))
                ∙ (λ k. (ap (λ t. front ++ t) (sym this) ∙ sym (flat_more row_at i)) k ++ sym left k);
            long =
                ap length (flat_more row_at i) ∙ length-append front (row_at i)
                ∙ (λ k. before.long k + length (this k))
                ∙ omega (arith, step, wide, others);
          }
