-- The windows of the rows of a range are the same in the traces of the rows around it.
use Rattle.std.proofs.Common.{◌≡◌, ◌⊎◌, ℕ, ◌+◌, ◌-◌, ◌*◌, ◌%◌, ◌<◌, ◌≤◌, ◌==◌, cond, true, false, Bool, List, [], ◌++◌, length, take, drop, inl, inr, refl, sym, ap, ◌∙◌, arith}
use native.Mathlib.Nat.{add-mul}
use Rattle.std.proofs.Math.Nat.{mod-eq_of_lt, mod_self}
use Rattle.std.proofs.Math.Seq.{drop-append-add}
use Rattle.std.proofs.lemmas.Bool.{cases_lt, eqb-false, eqb-true, ne_eqb}
use Rattle.std.proofs.lemmas.List.{drop-append-le, drop-drop, drop-take, length-append, length-drop, length-take, take-append-le, take-take}
use Rattle.std.specs.List.{slice_range}
use Rattle.matrix.specs.Matrix.{row}
use Rattle.checker_witness.specs.Around.{around, place_of_first, rows_around}

-- a number of rows further on, and their width
more_rows : (a b w : ℕ) → (a + b) * w ≡ a * w + b * w
more_rows a b w = add-mul a b w

-- rows below others, and their values
fewer_rows : (a b w : ℕ) → a ≤ b → a * w ≤ b * w
fewer_rows a b w le =
    let whole : a + (b - a) ≡ b = omega (arith, le) in
    omega (arith, add-mul a (b - a) w, ap (λ n. n * w) whole)

module _ {T : Type 0} (w : ℕ) where
  -- row r of values in rows of this width
  abbrev pub row_in : List T → ℕ → List T
  row_in xs r = take w (drop (r * w) xs)

  -- which is that of the matrix
  pub row_is : (xs : List T) (r : ℕ) → row (record { values = xs; width = w }) r ≡ row_in xs r
  row_is xs r = let one : (r + 1) * w - r * w ≡ w = omega (arith, more_rows r 1 w) in ap (λ n. take n (drop (r * w) xs)) one

  -- after other rows
  row_after : (p q : List T) (a k : ℕ) → length p ≡ a * w → row_in (p ++ q) (a + k) ≡ row_in q k
  row_after p q a k long =
      ap (λ n. take w (drop n (p ++ q))) (more_rows a k w ∙ ap (λ n. n + k * w) (sym long)) ∙ ap (take w) (drop-append-add p q (k * w))

  -- before other rows
  row_before : (p q : List T) (k n : ℕ) → length p ≡ n * w → k < n → row_in (p ++ q) k ≡ row_in p k
  row_before p q k n long lt =
      let next = fewer_rows (k + 1) n w (omega (arith, lt)) in
      let whole = more_rows k 1 w in
      ap (take w) (drop-append-le (k * w) p q (omega (arith, long, next, whole)))
      ∙ take-append-le w (drop (k * w) p) q (omega (arith, length-drop (k * w) p, long, next, whole))

  -- a row of a range
  row_within : (xs : List T) (first end k : ℕ) → end * w ≤ length xs → first + k < end → row_in (slice_range xs (first * w) (end * w)) k ≡ row_in xs (first + k)
  row_within xs first end k long lt =
      let rest = (end * w - first * w) - k * w in
      let here = more_rows first k w in
      let next = more_rows (first + k) 1 w in
      let upto = fewer_rows (first + k + 1) end w (omega (arith, lt)) in
      let split : end * w - first * w ≡ k * w + rest = omega (arith, here, next, upto) in
      ap (λ n. take w (drop (k * w) (take n (drop (first * w) xs)))) split
      ∙ ap (take w) (drop-take (k * w) rest (drop (first * w) xs))
      ∙ take-take w rest (drop (k * w) (drop (first * w) xs)) (omega (arith, here, next, upto))
      ∙ ap (take w) (drop-drop (k * w) (first * w) xs ∙ ap (λ n. drop n xs) (sym here))

  module _ (h first end : ℕ) (xs : List T) (from : first ≤ end) (up_to : end ≤ h) (long : length xs ≡ h * w) where
    many : end * w ≤ length xs
    many = omega (arith, fewer_rows end h w up_to, long)

    middle : List T
    middle = slice_range xs (first * w) (end * w)

    tail : List T
    tail = cond (end == h) [] (slice_range xs (end * w) ((end + 1) * w))

    pub length-middle : length (slice_range xs (first * w) (end * w)) ≡ (end - first) * w
    unfolding middle
    length-middle =
        let whole : first + (end - first) ≡ end = omega (arith, from) in
        let parts : end * w ≡ first * w + (end - first) * w = ap (λ n. n * w) (sym whole) ∙ more_rows first (end - first) w in
        length-take (end * w - first * w) (drop (first * w) xs) ∙ omega (arith, length-drop (first * w) xs, many, parts)

    -- a row of the range, or the one after it where the trace goes on
    row_of_rest : (k : ℕ) → first + k < h → k ≤ end - first → row_in (middle ++ tail) k ≡ row_in xs (first + k)
    unfolding middle tail
    row_of_rest k lt le = by_end (cases_lt k (end - first))
      where
        by_end : (k < end - first) ⊎ (end - first ≤ k) → row_in (middle ++ tail) k ≡ row_in xs (first + k)
        by_end (inl within) = row_before middle tail k (end - first) length-middle within ∙ row_within xs first end k many (omega (arith, within, from))
        by_end (inr last) =
            let here : first + k ≡ end = omega (arith, last, le, from) in
            let n : k ≡ (end - first) + 0 = omega (arith, last, le) in
            let further : end < h = omega (arith, lt, here) in
            let open_end : tail ≡ slice_range xs (end * w) ((end + 1) * w) = ap (λ b. cond b [] (slice_range xs (end * w) ((end + 1) * w))) (ne_eqb end h (λ e. absurd (omega (arith, e, further)))) in
            let upto = fewer_rows (end + 1) h w (omega (arith, further)) in
            ap (row_in (middle ++ tail)) n ∙ row_after middle tail (end - first) 0 length-middle
            ∙ ap (λ t. row_in t 0) open_end
            ∙ row_within xs end (end + 1) 0 (omega (arith, upto, long)) (omega arith)
            ∙ ap (row_in xs) (omega (arith, here))

    module _ (f : Bool) (test : (first == 0) ≡ f) where
      -- the same among the rows around the range
      pub row_there : (k : ℕ) → first + k < h → k ≤ end - first → row_in (around w h first end xs) (place_of_first first + k) ≡ row_in xs (first + k)
      unfolding middle tail
      row_there k lt le = by_test f test
        where
          by_test : (b : Bool) → (first == 0) ≡ b → row_in (around w h first end xs) (place_of_first first + k) ≡ row_in xs (first + k)
          by_test true e =
              ap (λ b. row_in (cond b [] (take w xs) ++ (middle ++ tail)) (cond b 0 1 + k)) e ∙ ap (row_in (middle ++ tail)) (omega arith) ∙ row_of_rest k lt le
          by_test false e =
              let head : length (take w xs) ≡ 1 * w = length-take w xs ∙ omega (arith, fewer_rows 1 h w (omega (arith, lt)), long) in
              ap (λ b. row_in (cond b [] (take w xs) ++ (middle ++ tail)) (cond b 0 1 + k)) e
              ∙ row_after (take w xs) (middle ++ tail) 1 k head ∙ row_of_rest k lt le

      -- and its first row is that of the trace, unless there are no rows
      pub first_there : first < end → row_in (around w h first end xs) 0 ≡ row_in xs 0
      unfolding middle tail
      first_there some = by_test f test
        where
          by_test : (b : Bool) → (first == 0) ≡ b → row_in (around w h first end xs) 0 ≡ row_in xs 0
          by_test true e =
              let none : first ≡ 0 = eqb-true first 0 e in
              ap (λ b. row_in (cond b [] (take w xs) ++ (middle ++ tail)) 0) e ∙ row_of_rest 0 (omega (arith, some, up_to)) (omega arith) ∙ ap (row_in xs) (omega (arith, none))
          by_test false e =
              let head : length (take w xs) ≡ 1 * w = length-take w xs ∙ omega (arith, fewer_rows 1 h w (omega (arith, some, up_to)), long) in
              let all : w ≤ length xs = omega (arith, fewer_rows 1 h w (omega (arith, some, up_to)), long) in
              ap (λ b. row_in (cond b [] (take w xs) ++ (middle ++ tail)) 0) e
              ∙ row_before (take w xs) (middle ++ tail) 0 1 head (omega arith)
              ∙ zero_row (take w xs) ∙ take-take w w xs (omega arith) ∙ sym (zero_row xs)
            where
              zero_row : (ys : List T) → row_in ys 0 ≡ take w ys
              zero_row ys = ap (λ n. take w (drop n ys)) none_before
                where
                  none_before : 0 * w ≡ 0
                  none_before = omega arith

-- the rows around a range are those of the range, and those before
pub rows_within : (h first end : ℕ) → place_of_first first + (end - first) ≤ rows_around h first end
rows_within h first end = omega arith

module _ {T : Type 0} (w h first end : ℕ) (xs : List T) (from : first < end) (up_to : end ≤ h) (long : length xs ≡ h * w) where
  front : List T
  front = cond (first == 0) [] (take w xs)

  length-front : (b : Bool) → (first == 0) ≡ b → length (cond (first == 0) [] (take w xs)) ≡ place_of_first first * w
  length-front true e = ap (λ c. length (cond c [] (take w xs))) e ∙ omega arith ∙ ap (λ c. cond c 0 1 * w) (sym e)
  length-front false e =
      ap (λ c. length (cond c [] (take w xs))) e ∙ length-take w xs ∙ omega (arith, fewer_rows 1 h w (omega (arith, from, up_to)), long) ∙ ap (λ c. cond c 0 1 * w) (sym e)

  length-tail : (b : Bool) → (end == h) ≡ b → length (cond (end == h) [] (slice_range xs (end * w) ((end + 1) * w))) ≡ cond (end == h) 0 1 * w
  length-tail true e = ap (λ c. length (cond c [] (slice_range xs (end * w) ((end + 1) * w)))) e ∙ omega arith ∙ ap (λ c. cond c 0 1 * w) (sym e)
  length-tail false e =
      let open_end : end < h = omega (arith, up_to, eqb-false end h e) in
      ap (λ c. length (cond c [] (slice_range xs (end * w) ((end + 1) * w)))) e
      ∙ length-take ((end + 1) * w - end * w) (drop (end * w) xs)
      ∙ omega (arith, length-drop (end * w) xs, fewer_rows (end + 1) h w (omega (arith, open_end)), more_rows end 1 w, long)
      ∙ ap (λ c. cond c 0 1 * w) (sym e)

  pub length-around : length (around w h first end xs) ≡ rows_around h first end * w
  length-around =
      let middle = slice_range xs (first * w) (end * w) in
      let tail = cond (end == h) [] (slice_range xs (end * w) ((end + 1) * w)) in
      length-append (cond (first == 0) [] (take w xs)) (middle ++ tail) ∙ ap (λ n. length (cond (first == 0) [] (take w xs)) + n) (length-append middle tail)
      ∙ (λ i. length-front (first == 0) refl i + (length-middle w h first end xs (omega (arith, from)) up_to long i + length-tail (end == h) refl i))
      ∙ omega (arith, more_rows (place_of_first first + (end - first)) (cond (end == h) 0 1) w, more_rows (place_of_first first) (end - first) w)

module _ {T : Type 0} (w h first end : ℕ) (xs : List T) (from : first < end) (up_to : end ≤ h) (long : length xs ≡ h * w) (k : ℕ) (within : first + k < end) where
  -- the next row is the same, also after the last row
  pub next_there : row_in w (around w h first end xs) ((place_of_first first + k + 1) % rows_around h first end) ≡ row_in w xs ((first + k + 1) % h)
  next_there = by_end (cases_lt (first + k + 1) h) (first == 0) refl (end == h) refl
    where
      by_end : (first + k + 1 < h) ⊎ (h ≤ first + k + 1) → (f : Bool) → ◌≡◌ {A = Bool} (first == 0) f → (b : Bool) → ◌≡◌ {A = Bool} (end == h) b → row_in w (around w h first end xs) ((place_of_first first + k + 1) % (place_of_first first + (end - first) + cond (end == h) 0 1)) ≡ row_in w xs ((first + k + 1) % h)
      by_end (inl further) f test true e =
          let last : end ≡ h = eqb-true end h e in
          let below : place_of_first first + k + 1 < place_of_first first + (end - first) + cond (end == h) 0 1 = omega (arith, further, last, from) in
          ap (row_in w (around w h first end xs)) (mod-eq_of_lt below ∙ omega arith)
          ∙ row_there w h first end xs (omega (arith, from)) up_to long f test (k + 1) (omega (arith, further)) (omega (arith, further, last, from))
          ∙ ap (row_in w xs) (omega arith ∙ sym (mod-eq_of_lt further))
      by_end (inl further) f test false e =
          let one : ◌≡◌ {A = ℕ} (cond (end == h) 0 1) 1 = ap (λ b. cond b 0 1) e in
          let below : place_of_first first + k + 1 < place_of_first first + (end - first) + cond (end == h) 0 1 = omega (arith, within, one) in
          ap (row_in w (around w h first end xs)) (mod-eq_of_lt below ∙ omega arith)
          ∙ row_there w h first end xs (omega (arith, from)) up_to long f test (k + 1) (omega (arith, further)) (omega (arith, within))
          ∙ ap (row_in w xs) (omega arith ∙ sym (mod-eq_of_lt further))
      by_end (inr last) f test true e =
          let all : end ≡ h = eqb-true end h e in
          let none : ◌≡◌ {A = ℕ} (cond (end == h) 0 1) 0 = ap (λ b. cond b 0 1) e in
          let size : place_of_first first + k + 1 ≡ place_of_first first + (end - first) + cond (end == h) 0 1 = omega (arith, last, within, all, none) in
          let whole : first + k + 1 ≡ h = omega (arith, last, within, up_to) in
          ap (row_in w (around w h first end xs)) (ap (λ n. n % (place_of_first first + (end - first) + cond (end == h) 0 1)) size ∙ mod_self (place_of_first first + (end - first) + cond (end == h) 0 1))
          ∙ first_there w h first end xs (omega (arith, from)) up_to long f test from
          ∙ ap (row_in w xs) (sym (ap (λ n. n % h) whole ∙ mod_self h))
      by_end (inr last) f test false e = absurd (eqb-false end h e (omega (arith, last, within, up_to)))
