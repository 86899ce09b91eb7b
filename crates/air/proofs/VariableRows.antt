-- Rows of variables, each at its index.
use Rattle.std.proofs.Common.{◌≡◌, ℕ, ◌+◌, ◌-◌, ◌*◌, ◌<◌, List, [], ◌∷◌, ◌++◌, length, map, drop, get_or, ap, sym, ◌∙◌, subst, arith, add-one, drop-cons, length-append}
use Rattle.std.proofs.Math.Seq.{drop-append_seam, take-append_seam}
use Rattle.std.proofs.lemmas.List.{drop_all, take_all}
use Rattle.matrix.specs.Matrix.{row}
use Rattle.air_expressions.specs.Builder.{MeansRow}
use Rattle.air.specs.internal.Variables.{AreVariables, IsVariableRow, IsVariableMatrix}

-- one more variable with the next index makes the list longer
pub variables_more : {V E : Type 0} (entry_of : V → E) (index_of : V → ℕ) (entry : E) (i n : ℕ) (vs : List V) (v : V) → AreVariables entry_of index_of entry i vs → n ≡ i + length vs → entry_of v ≡ entry → index_of v ≡ n → AreVariables entry_of index_of entry i (vs ++ v ∷ [])
variables_more entry_of index_of entry i n [] v are at same place = (same, omega (arith, place), tt)
variables_more entry_of index_of entry i n (u ∷ vs) v are at same place =
    (are.0, are.1, variables_more entry_of index_of entry (i + 1) n vs v are.2 (omega arith) same place)

-- two rows of variables, one after the other, are the rows of their matrix
pub rows_joined : {V E : Type 0} (entry_of : V → E) (index_of : V → ℕ) (current next : E) (width : ℕ) (vs us : List V) → IsVariableRow entry_of index_of current width vs → IsVariableRow entry_of index_of next width us → IsVariableMatrix entry_of index_of current next width (record { values = vs ++ us; width = width })
rows_joined {V} entry_of index_of current next width vs us above below = record {
  two_rows = omega (arith, length-append vs us, above.len, below.len);
  current_row = let P : List V → Type 0 = λ l. IsVariableRow entry_of index_of current width l in subst P (sym first) above;
  next_row = let P : List V → Type 0 = λ l. IsVariableRow entry_of index_of next width l in subst P (sym second) below;
}
  where
    first : row (record { values = vs ++ us; width = width }) 0 ≡ vs
    first =
        let whole : 1 * width - 0 * width ≡ length vs = omega (arith, above.len) in
        let none : 0 * width ≡ 0 = omega arith in
        rw (whole, none) (take-append_seam vs us)

    second : row (record { values = vs ++ us; width = width }) 1 ≡ us
    second =
        let whole : 2 * width - 1 * width ≡ length us = omega (arith, below.len) in
        let one : 1 * width ≡ length vs = omega (arith, above.len) in
        rw (whole, one, drop-append_seam) (take_all (length us) us (omega arith))

-- variables of one entry mean the cells that the entry is looked up in
pub means_cells : {V E W A : Type 0} (stands_for : W → Type 0) (meaning : V → W → A) (entry_of : V → E) (index_of : V → ℕ) (entry : E) (width : ℕ) (cells : W → List A) (none : A) (variables : List V) → IsVariableRow entry_of index_of entry width variables → ((v : V) (w : W) → entry_of v ≡ entry → meaning v w ≡ get_or (cells w) (index_of v) none) → ((w : W) → stands_for w → length (cells w) ≡ width) → MeansRow stands_for meaning width cells variables
means_cells {V} {E} {W} {A} stands_for meaning entry_of index_of entry width cells none variables at reads fits = record {
  len = at.len;
  reads = λ w stands. from w 0 variables at.indices (omega (arith, at.len, fits w stands));
}
  where
    from : (w : W) (i : ℕ) (vs : List V) → AreVariables entry_of index_of entry i vs → i + length vs ≡ length (cells w) → map (λ v. meaning v w) vs ≡ drop i (cells w)
    from w i [] are whole = sym (drop_all i (cells w) (omega arith))
    from w i (v ∷ vs) are whole =
        let first : meaning v w ≡ get_or (cells w) i none = reads v w are.0 ∙ ap (λ k. get_or (cells w) k none) are.1 in
        let rest : map (λ u. meaning u w) vs ≡ drop (i + 1) (cells w) = from w (i + 1) vs are.2 (omega arith) in
        let within : i < length (cells w) = omega arith in
        rw (first, rest, add-one) (sym (drop-cons (cells w) i none within))
