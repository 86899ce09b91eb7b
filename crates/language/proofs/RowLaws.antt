-- The numbers of lines, as those of their cells.
use Rattle.std.proofs.Common.{◌≡◌, ◌+◌, ◌-◌, ◌%◌, ◌++◌, ◌==◌, ℕ, zero, suc, Bool, true, false, cond, List, [], ◌∷◌, Some, Result, Ok, Err, length, map, nat_lt, arith, refl, sym, ap, ◌∙◌}
use Rattle.std.specs.List.{flat_map}
use Rattle.std.specs.Result.{result_ok}
use Rattle.std.proofs.lemmas.List.{map-append}
use Rattle.language.specs.declared.fault.Fault.{Fault}
use Rattle.language.specs.declared.fault.Why.TheVariants.{LargeNumber}
use Rattle.language.specs.declared.number.Decimal.{Decimal}
use Rattle.language.specs.declared.number.Decimal.TheVariants as decimals
use Rattle.language.specs.Faults.{◌>>=◌}
use Rattle.language.specs.Numbers.{decimal_of}
use Rattle.language.specs.Tables.{AreRows, cell_at, cells_of_line, residue_at, row_at, rows_at, cell_number_of, without_return}
use Rattle.language.proofs.GrammarLaws.{bind_ok}

-- what was read
abbrev read : {A : Type 0} → A → Result A Fault
read x = Ok x

list_is : (xs ys : List ℕ) → read xs ≡ read ys → xs ≡ ys
list_is xs ys e = cc

some_is : (m n : ℕ) → Some m ≡ Some n → m ≡ n
some_is m n e = cc

-- a test with a fault does not depend on the fault
residue_by : (b : Bool) (d e : Fault) (n : ℕ) → result_ok (cond b (read n) (Err d)) ≡ result_ok (cond b (read n) (Err e))
residue_by true d e n = refl
residue_by false d e n = refl

-- a residue does not depend on its place
residue_place : (modulus at : ℕ) (negative : Bool) (d : Decimal) → result_ok (residue_at modulus at negative d) ≡ result_ok (residue_at modulus 0 negative d)
residue_place modulus at negative (decimals.Value n) = residue_by (nat_lt n modulus) (record { at = at; why = LargeNumber }) (record { at = 0; why = LargeNumber }) (cond negative ((modulus - n) % modulus) n)
residue_place modulus at negative decimals.Large = refl
residue_place modulus at negative decimals.Other = refl

cell_by : (b : Bool) (modulus at : ℕ) (d e : Decimal) → result_ok (cond b (residue_at modulus at true d) (residue_at modulus at false e)) ≡ result_ok (cond b (residue_at modulus 0 true d) (residue_at modulus 0 false e))
cell_by true modulus at d e = residue_place modulus at true d
cell_by false modulus at d e = residue_place modulus at false e

-- nor does a number
cell_place : (modulus at : ℕ) (cell : List ℕ) → result_ok (cell_at modulus at cell) ≡ cell_number_of modulus cell
unfolding cell_at
cell_place modulus at [] = residue_place modulus at false (decimal_of [])
cell_place modulus at (b ∷ bs) = cell_by (b == 45) modulus at (decimal_of bs) (decimal_of (b ∷ bs))

-- the number that was read
read_value : (modulus at : ℕ) (cell : List ℕ) (n : ℕ) → cell_at modulus at cell ≡ Ok n → cell_number_of modulus cell ≡ Some n
read_value modulus at cell n is = sym (cell_place modulus at cell) ∙ ap result_ok is

ok_from : (r : Result ℕ Fault) (n : ℕ) → result_ok r ≡ Some n → r ≡ read n
ok_from (Ok m) n is = ap (λ (k : ℕ). Ok k) (some_is m n is)
ok_from (Err e) n is = absurd cc

-- a number is read
value_read : (modulus at : ℕ) (cell : List ℕ) (n : ℕ) → cell_number_of modulus cell ≡ Some n → cell_at modulus at cell ≡ Ok n
value_read modulus at cell n is = ok_from (cell_at modulus at cell) n (cell_place modulus at cell ∙ is)

-- a row that was read
row_found : (modulus at width : ℕ) (cells : List (List ℕ)) (ns : List ℕ) → row_at modulus at width cells ≡ Ok ns → (length cells ≡ width) × (map (cell_number_of modulus) cells ≡ map Some ns)
unfolding row_at
row_found modulus at zero [] ns e = (refl, ap (map Some) (list_is [] ns e))
row_found modulus at zero (cell ∷ cells) ns e = absurd cc
row_found modulus at (suc width) [] ns e = absurd cc
row_found modulus at (suc width) (cell ∷ cells) ns e =
    let b = bind_ok (cell_at modulus at cell) (λ n. row_at modulus (at + (length cell + 1)) width cells >>= λ ms. Ok (n ∷ ms)) ns e in
    let d = bind_ok (row_at modulus (at + (length cell + 1)) width cells) (λ ms. Ok (b.0 ∷ ms)) ns b.2 in
    let rest = row_found modulus (at + (length cell + 1)) width cells d.0 d.1 in
    (ap (λ n. suc n) rest.0, (λ i. read_value modulus at cell b.0 b.1 i ∷ rest.1 i) ∙ ap (map Some) (list_is (b.0 ∷ d.0) ns d.2))

-- a row of numbers is read
row_read : (modulus at width : ℕ) (cells : List (List ℕ)) (ns : List ℕ) → length cells ≡ width → map (cell_number_of modulus) cells ≡ map Some ns → row_at modulus at width cells ≡ Ok ns
unfolding row_at
row_read modulus at zero [] [] long is = refl
row_read modulus at zero [] (n ∷ ns) long is = absurd cc
row_read modulus at zero (cell ∷ cells) ns long is = absurd (omega (arith, long))
row_read modulus at (suc width) [] ns long is = absurd (omega (arith, long))
row_read modulus at (suc width) (cell ∷ cells) [] long is = absurd cc
row_read modulus at (suc width) (cell ∷ cells) (n ∷ ns) long is =
    let first : cell_number_of modulus cell ≡ Some n = cc in
    let others : map (cell_number_of modulus) cells ≡ map Some ns = cc in
    rw (value_read modulus at cell n first, row_read modulus (at + (length cell + 1)) width cells ns (omega (arith, long)) others) refl

-- the cells of a line
abbrev cells : List ℕ → List (List ℕ)
cells line = cells_of_line (without_return line)

-- lines that were read
pub rows_found : (modulus width at : ℕ) (lines : List (List ℕ)) (ns : List ℕ) → rows_at modulus width at lines ≡ Ok ns → AreRows modulus width lines ns
unfolding rows_at
rows_found modulus width at [] ns e = record { widths = tt; values = ap (map Some) (list_is [] ns e) }
rows_found modulus width at (line ∷ lines) ns e =
    let b = bind_ok (row_at modulus at width (cells line)) (λ row. rows_at modulus width (at + (length line + 1)) lines >>= λ rows. Ok (row ++ rows)) ns e in
    let d = bind_ok (rows_at modulus width (at + (length line + 1)) lines) (λ rows. Ok (b.0 ++ rows)) ns b.2 in
    let first = row_found modulus at width (cells line) b.0 b.1 in
    let rest = rows_found modulus width (at + (length line + 1)) lines d.0 d.1 in
    record {
      widths = (first.0, rest.widths);
      values = map-append (cell_number_of modulus) (cells line) (flat_map cells lines) ∙ (λ i. first.1 i ++ rest.values i) ∙ sym (map-append Some b.0 d.0) ∙ ap (map Some) (list_is (b.0 ++ d.0) ns d.2);
    }

-- numbers of two parts are those of each
parted : (modulus : ℕ) (xs ys : List (List ℕ)) (ns : List ℕ) → map (cell_number_of modulus) (xs ++ ys) ≡ map Some ns → (front : List ℕ) × (back : List ℕ) × (ns ≡ front ++ back) × (map (cell_number_of modulus) xs ≡ map Some front) × (map (cell_number_of modulus) ys ≡ map Some back)
parted modulus [] ys ns is = ([], ns, refl, refl, is)
parted modulus (x ∷ xs) ys [] is = absurd cc
parted modulus (x ∷ xs) ys (n ∷ ns) is =
    let first : cell_number_of modulus x ≡ Some n = cc in
    let others : map (cell_number_of modulus) (xs ++ ys) ≡ map Some ns = cc in
    let w = parted modulus xs ys ns others in
    (n ∷ w.0, w.1, ap (λ (ms : List ℕ). n ∷ ms) w.2, (λ i. first i ∷ w.3 i), w.4)

-- lines of numbers are read
pub rows_read : (modulus width at : ℕ) (lines : List (List ℕ)) (ns : List ℕ) → AreRows modulus width lines ns → rows_at modulus width at lines ≡ Ok ns
unfolding rows_at
rows_read modulus width at [] [] are = refl
rows_read modulus width at [] (n ∷ ns) are = let values = are.values in absurd cc
rows_read modulus width at (line ∷ lines) ns are =
    let w = parted modulus (cells line) (flat_map cells lines) ns are.values in
    let first : row_at modulus at width (cells line) ≡ Ok w.0 = row_read modulus at width (cells line) w.0 are.widths.0 w.3 in
    let rest : rows_at modulus width (at + (length line + 1)) lines ≡ Ok w.1 = rows_read modulus width (at + (length line + 1)) lines w.1 (record { widths = are.widths.1; values = w.4 }) in
    rw (first, rest) (ap (λ (ms : List ℕ). Ok ms) (sym w.2))
