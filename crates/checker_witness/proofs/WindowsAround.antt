-- What lookups send on the rows of a range is the same over the traces of the rows around it.
use Rattle.std.proofs.Common.{◌≡◌, ℕ, zero, suc, ◌+◌, ◌-◌, ◌*◌, ◌/◌, ◌%◌, ◌<◌, ◌≤◌, ◌==◌, not, cond, true, false, Bool, List, ◌∷◌, Option, None, Some, length, map, take, drop, refl, sym, ap, subst, ◌∙◌, arith}
use Rattle.std.proofs.lemmas.Bool.{eqb-false, eqb-true, ne_eqb}
use Rattle.std.proofs.lemmas.Nat.{div-mul-add}
use Rattle.std.proofs.lemmas.List.FromFn.{take-map-range_with_len}
use Rattle.std.specs.List.{AllByRecursion, range_with_len, slice_range}
use Rattle.std.specs.Option.{ForSome}
use Rattle.air.specs.Traces.{AirTraces, height_of, window_of}
use Rattle.air_expressions.specs.Window.{row_of_option, window_at}
use Rattle.field.specs.Extension.{Extension}
use Rattle.field.specs.Ring.{Ring}
use Rattle.lookup_model.specs.Constraints.{lookup_constraints}
use Rattle.lookup_model.specs.Witness.{HoldsOnRow, values_of_terminal, witness_window}
use Rattle.lookup_model.specs.declared.types.LookupTerminal.{LookupTerminal}
use Rattle.lookup_model.specs.Trace.{sent_row, sent_rows}
use Rattle.lookup_model.specs.declared.types.Lookup.{Lookup}
use Rattle.matrix.specs.Matrix.{Matrix, height, row}
use Rattle.checker_witness.proofs.RowsAround.{length-around, next_there, row_is, row_there, rows_within}
use Rattle.checker_witness.specs.Around.{around, matrix_around, option_around, place_of_first, rows_around, traces_around}

-- two tests of equality that say the same
same_test : (a b c d : ℕ) → (a ≡ b → c ≡ d) → (c ≡ d → a ≡ b) → (a == b) ≡ (c == d)
same_test a b c d to from = by_tests (a == b) refl (c == d) refl
  where
    by_tests : (p : Bool) → ◌≡◌ {A = Bool} (a == b) p → (q : Bool) → ◌≡◌ {A = Bool} (c == d) q → (a == b) ≡ (c == d)
    by_tests true e true f = e ∙ sym f
    by_tests false e false f = e ∙ sym f
    by_tests true e false f = absurd (eqb-false c d f (to (eqb-true a b e)))
    by_tests false e true f = absurd (eqb-false a b e (from (eqb-true c d f)))

-- where a row stands
place_by : (first : ℕ) (b : Bool) → ◌≡◌ {A = Bool} (first == 0) b → place_of_first first ≡ cond b 0 1
place_by first b e = ap (λ c. cond c 0 1) e

-- the parts of a range from its list
pub range_part : {X : Type 0} (f : ℕ → X) (h a b : ℕ) → a ≤ b → b ≤ h → slice_range (map f (range_with_len 0 h)) a b ≡ map f (range_with_len a (b - a))
range_part f h a b le within =
    let rest : take (b - a) (drop a (map f (range_with_len 0 h))) ≡ take (b - a) (map f (range_with_len a (h - a))) = ap (take (b - a)) (dropped f 0 h a (omega (arith, le, within)) ∙ ap (λ n. map f (range_with_len n (h - a))) (omega arith)) in
    rest ∙ take-map-range_with_len f a (h - a) (b - a) (omega (arith, le, within))
  where
    dropped : {Y : Type 0} (g : ℕ → Y) (c n m : ℕ) → m ≤ n → drop m (map g (range_with_len c n)) ≡ map g (range_with_len (c + m) (n - m))
    dropped g c n zero le = λ i. map g (range_with_len (begin i) (all i))
      where
        begin : c ≡ c + 0
        begin = omega arith

        all : n ≡ n - 0
        all = omega arith
    dropped g c zero (suc m) le = absurd (omega (arith, le))
    dropped g c (suc n) (suc m) le = dropped g (c + 1) n m (omega (arith, le)) ∙ (λ i. map g (range_with_len (begin i) (all i)))
      where
        begin : c + 1 + m ≡ c + suc m
        begin = omega arith

        all : n - m ≡ suc n - suc m
        all = omega arith

-- what is the same index by index
pub same_mapped : {X : Type 0} (f g : ℕ → X) (a b n : ℕ) → ((k : ℕ) → k < n → f (a + k) ≡ g (b + k)) → map f (range_with_len a n) ≡ map g (range_with_len b n)
same_mapped f g a b zero same = refl
same_mapped f g a b (suc n) same =
    λ i. here i ∷ same_mapped f g (a + 1) (b + 1) n (λ k lt. ap f (next a k) ∙ same (suc k) (omega (arith, lt)) ∙ ap g (sym (next b k))) i
  where
    none : (c : ℕ) → c ≡ c + 0
    none c = omega arith

    next : (c k : ℕ) → c + 1 + k ≡ c + suc k
    next c k = omega arith

    here : f a ≡ g b
    here = ap f (none a) ∙ same 0 (omega arith) ∙ ap g (sym (none b))

-- the height of rows of a width
height_there : {T : Type 0} (values : List T) (width rows : ℕ) → 0 < width → length values ≡ rows * width → height (record { values = values; width = width }) ≡ rows
height_there values width rows some long = high width some long
  where
    high : (w : ℕ) → 0 < w → length values ≡ rows * w → height (record { values = values; width = w }) ≡ rows
    high zero lt e = absurd (omega (arith, lt))
    high (suc v) lt e = ap (λ b. cond b 0 (length values / suc v)) (ne_eqb (suc v) 0 (λ z. absurd (omega (arith, z)))) ∙ ap (λ n. n / suc v) (e ∙ omega arith) ∙ div-mul-add rows (suc v) 0 (omega arith)

module _ {F : Type 0} (traces : AirTraces F) (first end : ℕ) (from : first < end) (up_to : end ≤ height_of traces) (long : length traces.main.values ≡ height_of traces * traces.main.width) (wide : 0 < traces.main.width) (other : ForSome traces.preprocessed (λ m. length m.values ≡ height_of traces * m.width)) where
  h : ℕ
  h = height_of traces

  -- there are as many rows
  pub height_around : height_of (traces_around first end traces) ≡ rows_around (height_of traces) first end
  height_around = height_there (around traces.main.width (height_of traces) first end traces.main.values) traces.main.width (rows_around (height_of traces) first end) wide (length-around traces.main.width (height_of traces) first end traces.main.values from up_to long)

  module _ (k : ℕ) (within : first + k < end) where
    matrix_row : {T : Type 0} (m : Matrix T) → length m.values ≡ height_of traces * m.width → row (matrix_around (height_of traces) first end m) (place_of_first first + k) ≡ row m (first + k)
    matrix_row m full =
        row_is m.width (around m.width (height_of traces) first end m.values) (place_of_first first + k)
        ∙ row_there m.width (height_of traces) first end m.values (omega (arith, from)) up_to full (first == 0) refl k (omega (arith, within, up_to)) (omega (arith, within))
        ∙ sym (row_is m.width m.values (first + k))

    matrix_next : {T : Type 0} (m : Matrix T) → length m.values ≡ height_of traces * m.width → row (matrix_around (height_of traces) first end m) ((place_of_first first + k + 1) % rows_around (height_of traces) first end) ≡ row m ((first + k + 1) % height_of traces)
    matrix_next m full =
        row_is m.width (around m.width (height_of traces) first end m.values) ((place_of_first first + k + 1) % rows_around (height_of traces) first end)
        ∙ next_there m.width (height_of traces) first end m.values from up_to full k within
        ∙ sym (row_is m.width m.values ((first + k + 1) % height_of traces))

    option_row : (o : Option (Matrix F)) → ForSome o (λ m. length m.values ≡ height_of traces * m.width) → row_of_option (option_around (height_of traces) first end o) (place_of_first first + k) ≡ row_of_option o (first + k)
    option_row None full = refl
    option_row (Some m) full = matrix_row m (full m refl)

    option_next : (o : Option (Matrix F)) → ForSome o (λ m. length m.values ≡ height_of traces * m.width) → row_of_option (option_around (height_of traces) first end o) ((place_of_first first + k + 1) % rows_around (height_of traces) first end) ≡ row_of_option o ((first + k + 1) % height_of traces)
    option_next None full = refl
    option_next (Some m) full = matrix_next m (full m refl)

    is_first : (place_of_first first + k == 0) ≡ (first + k == 0)
    is_first = by_test (first == 0) refl
      where
        by_test : (b : Bool) → ◌≡◌ {A = Bool} (first == 0) b → (place_of_first first + k == 0) ≡ (first + k == 0)
        by_test true e = let none : first ≡ 0 = eqb-true first 0 e in same_test (place_of_first first + k) 0 (first + k) 0 (λ z. omega (arith, z, none)) (λ z. omega (arith, z, place_by first true e))
        by_test false e = let some = eqb-false first 0 e in same_test (place_of_first first + k) 0 (first + k) 0 (λ z. absurd (omega (arith, z, place_by first false e))) (λ z. absurd (some (omega (arith, z))))

    is_last : (place_of_first first + k + 1 == rows_around (height_of traces) first end) ≡ (first + k + 1 == height_of traces)
    is_last = by_test (end == height_of traces) refl
      where
        by_test : (b : Bool) → ◌≡◌ {A = Bool} (end == height_of traces) b → (place_of_first first + k + 1 == place_of_first first + (end - first) + cond (end == height_of traces) 0 1) ≡ (first + k + 1 == height_of traces)
        by_test true e =
            let all : end ≡ height_of traces = eqb-true end (height_of traces) e in
            let none : ◌≡◌ {A = ℕ} (cond (end == height_of traces) 0 1) 0 = ap (λ b. cond b 0 1) e in
            same_test (place_of_first first + k + 1) (place_of_first first + (end - first) + cond (end == height_of traces) 0 1) (first + k + 1) (height_of traces) (λ z. omega (arith, z, all, none, from)) (λ z. omega (arith, z, all, none, from))
        by_test false e =
            let further : end < height_of traces = omega (arith, up_to, eqb-false end (height_of traces) e) in
            let one : ◌≡◌ {A = ℕ} (cond (end == height_of traces) 0 1) 1 = ap (λ b. cond b 0 1) e in
            same_test (place_of_first first + k + 1) (place_of_first first + (end - first) + cond (end == height_of traces) 0 1) (first + k + 1) (height_of traces) (λ z. absurd (omega (arith, z, one, within))) (λ z. absurd (omega (arith, z, further, within)))

    -- the window of a row of the range
    pub window_there : window_of (traces_around first end traces) (place_of_first first + k) ≡ window_of traces (first + k)
    window_there =
        ap (λ n. window_at (matrix_around (height_of traces) first end traces.main) (option_around (height_of traces) first end traces.preprocessed) traces.public_values n (place_of_first first + k)) height_around
        ∙ (λ i. record {
          main = matrix_row traces.main long i;
          main_next = matrix_next traces.main long i;
          preprocessed = option_row traces.preprocessed other i;
          preprocessed_next = option_next traces.preprocessed other i;
          public_values = traces.public_values;
          is_first = is_first i;
          is_last = is_last i;
          is_transition = not (is_last i);
        })

    module _ {K : Type 0} (challenges : List K) (auxiliary : Matrix K) (terminal : Option (LookupTerminal K)) (full : length auxiliary.values ≡ height_of traces * auxiliary.width) where
      -- the window of a witness, with the rows around the range of its auxiliary trace
      pub witness_there : witness_window (traces_around first end traces) challenges (matrix_around (height_of traces) first end auxiliary) terminal (place_of_first first + k) ≡ witness_window traces challenges auxiliary terminal (first + k)
      witness_there =
          let next : row (matrix_around (height_of traces) first end auxiliary) ((place_of_first first + k + 1) % height_of (traces_around first end traces)) ≡ row auxiliary ((first + k + 1) % height_of traces) =
          ap (λ n. row (matrix_around (height_of traces) first end auxiliary) ((place_of_first first + k + 1) % n)) height_around ∙ matrix_next auxiliary full in
          λ i. record {
            base = window_there i;
            permutation = matrix_row auxiliary full i;
            permutation_next = next i;
            challenges = challenges;
            permutation_values = values_of_terminal terminal;
          }

      -- So the constraints hold on a row of the range exactly if they do among the rows around it.
      pub holds_there : (E : Extension F K) (lookups : List (Lookup F)) → HoldsOnRow E (traces_around first end traces) lookups challenges (matrix_around (height_of traces) first end auxiliary) terminal (place_of_first first + k) → HoldsOnRow E traces lookups challenges auxiliary terminal (first + k)
      holds_there E lookups holds = subst (λ w. AllByRecursion (λ constraint. constraint.meaning w ≡ E.ring.zero) (lookup_constraints E lookups)) witness_there holds

      pub holds_here : (E : Extension F K) (lookups : List (Lookup F)) → HoldsOnRow E traces lookups challenges auxiliary terminal (first + k) → HoldsOnRow E (traces_around first end traces) lookups challenges (matrix_around (height_of traces) first end auxiliary) terminal (place_of_first first + k)
      holds_here E lookups holds = subst (λ w. AllByRecursion (λ constraint. constraint.meaning w ≡ E.ring.zero) (lookup_constraints E lookups)) (sym witness_there) holds

  -- So what is sent on the rows of the range is the same.
  pub sent_there : (R : Ring F) (eq : F → F → Bool) (lookups : List (Lookup F)) → slice_range (sent_rows R eq (traces_around first end traces) lookups) (place_of_first first) (place_of_first first + (end - first)) ≡ slice_range (sent_rows R eq traces lookups) first end
  sent_there R eq lookups =
      let f = λ (r : ℕ). sent_row R eq (window_of (traces_around first end traces) r) lookups in
      let g = λ (r : ℕ). sent_row R eq (window_of traces r) lookups in
      let size : place_of_first first + (end - first) - place_of_first first ≡ end - first = omega arith in
      range_part f (height_of (traces_around first end traces)) (place_of_first first) (place_of_first first + (end - first)) (omega arith) (fits height_around)
      ∙ ap (λ n. map f (range_with_len (place_of_first first) n)) size
      ∙ same_mapped f g (place_of_first first) first (end - first) (λ k lt. ap (λ w. sent_row R eq w lookups) (window_there k (omega (arith, lt))))
      ∙ sym (range_part g (height_of traces) first end (omega (arith, from)) up_to)
    where
      fits : height_of (traces_around first end traces) ≡ rows_around (height_of traces) first end → place_of_first first + (end - first) ≤ height_of (traces_around first end traces)
      fits high = omega (arith, high, below)
        where
          below : place_of_first first + (end - first) ≤ rows_around (height_of traces) first end
          below = rows_within (height_of traces) first end
