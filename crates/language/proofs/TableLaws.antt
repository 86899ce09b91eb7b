-- Lines and cells, one by one.
use Rattle.std.proofs.Common.{◌≡◌, ◌⊎◌, ◌<◌, ◌≤◌, ◌+◌, ◌-◌, ◌++◌, ◌==◌, ◌||◌, not, ℕ, suc, Bool, true, false, cond, List, [], ◌∷◌, Option, Some, None, Result, Ok, Err, length, drop, take, arith, refl, sym, ap, subst, ◌∙◌, append_assoc, take_all, inl, inr}
use Rattle.std.specs.List.{list_any, prefix_len}
use Rattle.std.specs.Str.{bytes_eq}
use Rattle.std.specs.declared.alloc.Global.{Global}
use Rattle.std.specs.declared.vec.Vec.{Vec}
use Rattle.std.proofs.lemmas.Bool.{cases_lt}
use Rattle.std.proofs.lemmas.List.{append-nil, length-take-le}
use Rattle.std.proofs.lemmas.List.Folds.{length-prefix_len}
use Rattle.std.proofs.Math.ListN.{drop_of_length-le}
use Rattle.language.specs.declared.fault.Fault.{Fault}
use Rattle.language.specs.declared.fault.TextFault.{TextFault}
use Rattle.language.specs.declared.fault.TextFault.TheVariants as faults
use Rattle.language.specs.declared.fault.Why.TheVariants.{EmptyName, ExtraCell, Header, MissingCell, RepeatedName}
use Rattle.language.specs.Faults.{◌>>=◌, IsTextFaultOrMemory}
use Rattle.language.specs.Lexemes.{line_length}
use Rattle.language.specs.Tables.{before_first_part, cell_at, cells_of_line, header_at, is_name_among, lines_of, names_from, names_of, row_at, rows_at, without_return}
use Rattle.language.specs.internal.Tables.{IsAfter, with_numbers}
use Rattle.language.proofs.TokenLaws.{length-take_while}

-- how many bytes are left of a line, with the comma before them
abbrev pub size : Option (List ℕ) → ℕ
size None = 0
size (Some line) = length line + 1

-- how many bytes stand before a mark
abbrev pub before : ℕ → List ℕ → ℕ
before mark bytes = prefix_len (λ b. not (b == mark)) bytes

-- a test that passes or fails
tells : (t : Bool) → (t ≡ true) ⊎ (t ≡ false)
tells true = inl refl
tells false = inr refl

-- the parts of some bytes between marks
module _ (mark : ℕ) (parts : List ℕ → List (List ℕ)) (next : (b : ℕ) (bs : List ℕ) → parts (b ∷ bs) ≡ cond (b == mark) ([] ∷ parts bs) (before_first_part b (parts bs))) where
  -- a mark stands at the front
  at_mark : (b : ℕ) (bs : List ℕ) → (b == mark) ≡ true → (before mark (b ∷ bs) ≡ 0) × (parts (b ∷ bs) ≡ [] ∷ parts bs)
  at_mark b bs is = (ap (λ t. cond (not t) (1 + before mark bs) 0) is, next b bs ∙ ap (λ t. cond t ([] ∷ parts bs) (before_first_part b (parts bs))) is)

  -- a byte of the first part stands at the front
  at_byte : (b : ℕ) (bs : List ℕ) → (b == mark) ≡ false → (before mark (b ∷ bs) ≡ suc (before mark bs)) × (parts (b ∷ bs) ≡ before_first_part b (parts bs))
  at_byte b bs is =
      (ap (λ t. cond (not t) (1 + before mark bs) 0) is ∙ omega arith, next b bs ∙ ap (λ t. cond t ([] ∷ parts bs) (before_first_part b (parts bs))) is)

  -- behind the first mark stand the other parts
  pub parts-more : (bytes : List ℕ) → before mark bytes < length bytes → parts bytes ≡ take (before mark bytes) bytes ∷ parts (drop (before mark bytes + 1) bytes)
  parts-more [] within = absurd (omega (arith, within))
  parts-more (b ∷ bs) within =
      elim (tells (b == mark)) [
        | inl is ↦ (let w = at_mark b bs is in subst (λ n. parts (b ∷ bs) ≡ take n (b ∷ bs) ∷ parts (drop (n + 1) (b ∷ bs))) (sym w.0) w.1)
        | inr is ↦
            let w = at_byte b bs is in
            let k : ℕ = before mark bs in
            let rest : parts bs ≡ take k bs ∷ parts (drop (k + 1) bs) = parts-more bs (omega (arith, within, w.0)) in
            let after : suc k + 1 ≡ suc (k + 1) = omega arith in
            let whole : parts (b ∷ bs) ≡ take (suc k) (b ∷ bs) ∷ parts (drop (suc (k + 1)) (b ∷ bs)) = w.1 ∙ ap (before_first_part b) rest in
            let moved : parts (b ∷ bs) ≡ take (suc k) (b ∷ bs) ∷ parts (drop (suc k + 1) (b ∷ bs)) = subst (λ n. parts (b ∷ bs) ≡ take (suc k) (b ∷ bs) ∷ parts (drop n (b ∷ bs))) (sym after) whole in
            subst (λ n. parts (b ∷ bs) ≡ take n (b ∷ bs) ∷ parts (drop (n + 1) (b ∷ bs))) (sym w.0) moved
      ]

  -- with no mark there is one part
  last_of : (one : (b : ℕ) → before_first_part b (parts []) ≡ (b ∷ []) ∷ []) → (b : ℕ) (bs : List ℕ) → length bs ≤ before mark bs → before_first_part b (parts bs) ≡ (b ∷ bs) ∷ []
  last_of one b [] end = one b
  last_of one b (c ∷ bs) end =
      elim (tells (c == mark)) [
        | inl is ↦ (let w = at_mark c bs is in absurd (omega (arith, end, w.0)))
        | inr is ↦ (let w = at_byte c bs is in ap (before_first_part b) (w.1 ∙ last_of one c bs (omega (arith, end, w.0))))
      ]

  pub parts-last : (one : (b : ℕ) → before_first_part b (parts []) ≡ (b ∷ []) ∷ []) → (b : ℕ) (bs : List ℕ) → length (b ∷ bs) ≤ before mark (b ∷ bs) → parts (b ∷ bs) ≡ (b ∷ bs) ∷ []
  parts-last one b bs end =
      elim (tells (b == mark)) [
        | inl is ↦ (let w = at_mark b bs is in absurd (omega (arith, end, w.0)))
        | inr is ↦ (let w = at_byte b bs is in w.1 ∙ last_of one b bs (omega (arith, end, w.0)))
      ]

-- an empty text has no lines
no_lines : (b : ℕ) → before_first_part b (lines_of []) ≡ (b ∷ []) ∷ []
unfolding lines_of
no_lines b = refl

lines_end : (text : List ℕ) → text ≡ [] → [] ≡ lines_of text
unfolding lines_of
lines_end text none = rw none refl

unfolded_cells : (b : ℕ) (bs : List ℕ) → cells_of_line (b ∷ bs) ≡ cond (b == 44) ([] ∷ cells_of_line bs) (before_first_part b (cells_of_line bs))
unfolding cells_of_line
unfolded_cells b bs = refl

unfolded_lines : (b : ℕ) (bs : List ℕ) → lines_of (b ∷ bs) ≡ cond (b == 10) ([] ∷ lines_of bs) (before_first_part b (lines_of bs))
unfolding lines_of
unfolded_lines b bs = refl

-- the cells of a line with a comma
pub cells_of-more : (line : List ℕ) → before 44 line < length line → cells_of_line line ≡ take (before 44 line) line ∷ cells_of_line (drop (before 44 line + 1) line)
cells_of-more line within = parts-more 44 cells_of_line unfolded_cells line within

-- a line with no comma is one cell
pub cells_of-last : (line : List ℕ) → length line ≤ before 44 line → cells_of_line line ≡ line ∷ []
unfolding cells_of_line
cells_of-last [] end = refl
cells_of-last (b ∷ bs) end = parts-last 44 cells_of_line unfolded_cells (λ c. refl) b bs end

lines_by : (text : List ℕ) → 0 < length text → (before 10 text < length text) ⊎ (length text ≤ before 10 text) → lines_of text ≡ take (before 10 text) text ∷ lines_of (drop (before 10 text + 1) text)
lines_by text some (inl within) = parts-more 10 lines_of unfolded_lines text within
lines_by [] some (inr end) = absurd (omega (arith, some))
lines_by (b ∷ bs) some (inr end) =
    let text : List ℕ = b ∷ bs in
    let none : drop (before 10 text + 1) text ≡ [] = drop_of_length-le text (omega (arith, end)) in
    let all : take (before 10 text) text ≡ text = take_all (before 10 text) text end in
    parts-last 10 lines_of unfolded_lines (λ c. no_lines c) b bs end ∙ (λ i. sym all i ∷ lines_end (drop (before 10 text + 1) text) none i)

-- the first line of some bytes, and the others
pub lines_of-more : (text : List ℕ) → 0 < length text → lines_of text ≡ take (line_length text) text ∷ lines_of (drop (line_length text + 1) text)
lines_of-more text some =
    let long : line_length text ≡ before 10 text = length-prefix_len (λ b. not (b == 10)) text in
    subst (λ n. lines_of text ≡ take n text ∷ lines_of (drop (n + 1) text)) (sym long) (lines_by text some (cases_lt (before 10 text) (length text)))

-- a line has a first cell
pub first_cell : (line : List ℕ) → (cell : List ℕ) × (others : List (List ℕ)) × (cells_of_line line ≡ cell ∷ others)
first_cell line =
    elim (cases_lt (before 44 line) (length line)) [
      | inl within ↦ (take (before 44 line) line, cells_of_line (drop (before 44 line + 1) line), cells_of-more line within)
      | inr end ↦ (line, [], cells_of-last line end)
    ]

-- one more number was read
with_numbers-more : (front : List ℕ) (n : ℕ) (read : Result (List ℕ) Fault) → with_numbers front (read >>= λ ns. Ok (n ∷ ns)) ≡ with_numbers (front ++ n ∷ []) read
with_numbers-more front n (Ok ns) = ap (λ (xs : List ℕ). Ok xs) (simp append_assoc)
with_numbers-more front n (Err e) = refl

-- nothing was read before
pub with_numbers-none : (read : Result (List ℕ) Fault) → with_numbers [] read ≡ read
with_numbers-none (Ok ns) = refl
with_numbers-none (Err e) = refl

module _ (modulus at width i : ℕ) (front : List ℕ) (cells : List (List ℕ)) (all : Result (List ℕ) Fault) (told : with_numbers front (row_at modulus at (width - i) cells) ≡ all) where
  -- one more cell
  pub row-more : (cell : List ℕ) (others : List (List ℕ)) (n : ℕ) → i < width → cells ≡ cell ∷ others → cell_at modulus at cell ≡ Ok n → with_numbers (front ++ n ∷ []) (row_at modulus (at + (length cell + 1)) (width - (i + 1)) others) ≡ all
  unfolding row_at
  row-more cell others n less are is =
      let k : width - i ≡ suc (width - (i + 1)) = omega arith in
      let one : with_numbers front (row_at modulus at (width - i) cells) ≡ with_numbers (front ++ n ∷ []) (row_at modulus (at + (length cell + 1)) (width - (i + 1)) others) = rw (k, are, is) (with_numbers-more front n (row_at modulus (at + (length cell + 1)) (width - (i + 1)) others)) in
      sym one ∙ told

  -- a cell that has no number
  pub row-fault : (cell : List ℕ) (others : List (List ℕ)) (e : TextFault) → i < width → cells ≡ cell ∷ others → IsTextFaultOrMemory e (cell_at modulus at cell) → IsTextFaultOrMemory e all
  unfolding row_at
  row-fault cell others faults.Memory less are is = tt
  row-fault cell others (faults.Fault f) less are is =
      let k : width - i ≡ suc (width - (i + 1)) = omega arith in
      let one : with_numbers front (row_at modulus at (width - i) cells) ≡ Err f = rw (k, are, is) refl in
      sym told ∙ one

  -- a cell too few
  pub row-missing : i < width → cells ≡ [] → all ≡ Err (record { at = at - 1; why = MissingCell })
  unfolding row_at
  row-missing less are =
      let k : width - i ≡ suc (width - (i + 1)) = omega arith in
      let one : with_numbers front (row_at modulus at (width - i) cells) ≡ Err (record { at = at - 1; why = MissingCell }) = rw (k, are) refl in
      sym told ∙ one

  -- all cells
  pub row-end : width ≤ i → cells ≡ [] → all ≡ Ok front
  unfolding row_at
  row-end most are =
      let k : width - i ≡ 0 = omega arith in
      let one : with_numbers front (row_at modulus at (width - i) cells) ≡ Ok front = rw (k, are) (ap (λ (xs : List ℕ). Ok xs) (append-nil front)) in
      sym told ∙ one

  -- a cell too many
  pub row-extra : (cell : List ℕ) (others : List (List ℕ)) → width ≤ i → cells ≡ cell ∷ others → all ≡ Err (record { at = at; why = ExtraCell })
  unfolding row_at
  row-extra cell others most are =
      let k : width - i ≡ 0 = omega arith in
      let one : with_numbers front (row_at modulus at (width - i) cells) ≡ Err (record { at = at; why = ExtraCell }) = rw (k, are) refl in
      sym told ∙ one

-- a line of numbers was read before those that follow
rows_step : (front new : List ℕ) (row rows : Result (List ℕ) Fault) → with_numbers front row ≡ Ok new → with_numbers front (row >>= λ r. rows >>= λ rs. Ok (r ++ rs)) ≡ with_numbers new rows
rows_step front new (Ok r) (Ok rs) is = let same : front ++ r ≡ new = cc in ap (λ (xs : List ℕ). Ok xs) (sym (append_assoc front r rs) ∙ ap (λ (xs : List ℕ). xs ++ rs) same)
rows_step front new (Ok r) (Err e) is = refl
rows_step front new (Err e) rows is = absurd cc

-- a line that has a fault
rows_fault : (e : TextFault) (front : List ℕ) (row rows : Result (List ℕ) Fault) → IsTextFaultOrMemory e (with_numbers front row) → IsTextFaultOrMemory e (with_numbers front (row >>= λ r. rows >>= λ rs. Ok (r ++ rs)))
rows_fault faults.Memory front row rows is = tt
rows_fault (faults.Fault f) front (Ok r) rows is = absurd cc
rows_fault (faults.Fault f) front (Err e) rows is = is

module _ (modulus width at len : ℕ) (front text : List ℕ) (all : Result (List ℕ) Fault) (some : 0 < length text) (long : len ≡ line_length text) (told : with_numbers front (rows_at modulus width at (lines_of text)) ≡ all) where
  abbrev line : List ℕ
  line = take len text

  first_line : with_numbers front (row_at modulus at width (cells_of_line (without_return line)) >>= λ r. rows_at modulus width (at + (len + 1)) (lines_of (drop (len + 1) text)) >>= λ rs. Ok (r ++ rs)) ≡ all
  unfolding rows_at
  first_line =
      let size : length line ≡ len = length-take-le len text (omega (arith, long, length-take_while (λ b. not (b == 10)) text)) in
      let lines : lines_of text ≡ line ∷ lines_of (drop (len + 1) text) = subst (λ n. lines_of text ≡ take n text ∷ lines_of (drop (n + 1) text)) (sym long) (lines_of-more text some) in
      let one : with_numbers front (rows_at modulus width at (lines_of text)) ≡ with_numbers front (row_at modulus at width (cells_of_line (without_return line)) >>= λ r. rows_at modulus width (at + (length line + 1)) (lines_of (drop (len + 1) text)) >>= λ rs. Ok (r ++ rs)) = rw lines refl in
      subst (λ n. with_numbers front (row_at modulus at width (cells_of_line (without_return line)) >>= λ r. rows_at modulus width (at + (n + 1)) (lines_of (drop (len + 1) text)) >>= λ rs. Ok (r ++ rs)) ≡ all) size (sym one ∙ told)

  -- one more line
  pub rows-more : (new : List ℕ) → with_numbers front (row_at modulus at width (cells_of_line (without_return line))) ≡ Ok new → with_numbers new (rows_at modulus width (at + (len + 1)) (lines_of (drop (len + 1) text))) ≡ all
  rows-more new is = sym (rows_step front new _ _ is) ∙ first_line

  -- a line with a fault
  pub rows-fault : (e : TextFault) → IsTextFaultOrMemory e (with_numbers front (row_at modulus at width (cells_of_line (without_return line)))) → IsTextFaultOrMemory e all
  rows-fault e is = subst (λ r. IsTextFaultOrMemory e r) first_line (rows_fault e front _ _ is)

-- all lines
pub rows-end : (modulus width at : ℕ) (front text : List ℕ) (all : Result (List ℕ) Fault) → length text ≡ 0 → with_numbers front (rows_at modulus width at (lines_of text)) ≡ all → all ≡ Ok front
unfolding rows_at lines_of
rows-end modulus width at front [] all none told = sym told ∙ ap (λ (xs : List ℕ). Ok xs) (append-nil front)
rows-end modulus width at front (b ∷ bs) all none told = absurd (omega (arith, none))

-- whether a name is among those of vectors
pub is_among-items : (name : List ℕ) (names : List (Vec ℕ Global)) → is_name_among name (names_of names) ≡ list_any (λ other. bytes_eq other.items name) names
is_among-items name [] = refl
is_among-items name (other ∷ others) = ap (λ b. bytes_eq other.items name || b) (is_among-items name others)

module _ (at : ℕ) (before cells : List (List ℕ)) (all : Result (List (List ℕ)) Fault) (told : names_from at before cells ≡ all) where
  -- one more name
  pub names-more : (name : List ℕ) (others : List (List ℕ)) → cells ≡ name ∷ others → (length name == 0) ≡ false → is_name_among name before ≡ false → names_from (at + (length name + 1)) (before ++ name ∷ []) others ≡ all
  unfolding names_from
  names-more name others are some new =
      let one : names_from at before cells ≡ names_from (at + (length name + 1)) (before ++ name ∷ []) others = rw (are, some, new) refl in
      sym one ∙ told

  -- a name that is empty
  pub names-empty : (name : List ℕ) (others : List (List ℕ)) → cells ≡ name ∷ others → (length name == 0) ≡ true → all ≡ Err (record { at = at; why = EmptyName })
  unfolding names_from
  names-empty name others are none =
      let one : names_from at before cells ≡ Err (record { at = at; why = EmptyName }) = rw (are, none) refl in
      sym told ∙ one

  -- a name that stood before
  pub names-repeated : (name : List ℕ) (others : List (List ℕ)) → cells ≡ name ∷ others → (length name == 0) ≡ false → is_name_among name before ≡ true → all ≡ Err (record { at = at; why = RepeatedName })
  unfolding names_from
  names-repeated name others are some old =
      let one : names_from at before cells ≡ Err (record { at = at; why = RepeatedName }) = rw (are, some, old) refl in
      sym told ∙ one

  -- all names
  pub names-end : cells ≡ [] → all ≡ Ok before
  unfolding names_from
  names-end are =
      let one : names_from at before cells ≡ Ok before = rw are refl in
      sym told ∙ one

-- a header that has bytes
pub header-some : (at : ℕ) (line : List ℕ) → (length line == 0) ≡ false → names_from at [] (cells_of_line line) ≡ header_at at line
unfolding header_at
header-some at line some = rw some refl

-- a header that has none
pub header-none : (at : ℕ) (line : List ℕ) → (length line == 0) ≡ true → header_at at line ≡ Err (record { at = at; why = Header })
unfolding header_at
header-none at line none = rw none refl

-- a cell and the comma behind it are passed over
pub place-more : (at total part : ℕ) (left : List ℕ) (others : Option (List ℕ)) → at + (length left + 1) ≡ total → IsAfter (length left) part others → at + (part + 1) + size others ≡ total
place-more at total part left None place after = omega (arith, place, after)
place-more at total part left (Some rest) place after = omega (arith, place, after)
