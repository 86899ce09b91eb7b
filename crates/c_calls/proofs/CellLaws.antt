-- Cells that are shifted in place.
use Rattle.std.proofs.Common.{◌≡◌, ◌∙◌, ◌+◌, ◌*◌, ◌<◌, ◌/◌, ◌==◌, ◌++◌, ◌∷◌, [], ℕ, suc, zero, All, List, ap, arith, drop, get_or, if◌then◌else◌, length, map, refl, set, subst, sym}
use Rattle.std.proofs.Math.Nat.{mod-eq_of_lt}
use Rattle.std.proofs.lemmas.List.{append-nil, drop_all, get_or-map, length-map, map-set}
use Rattle.std.proofs.lemmas.List.Elements.{All-head, All-tail}
use Rattle.std.proofs.lemmas.Nat.{mul-add-lt}
use native.Mathlib.Nat.{mul_comm}
use Rattle.std.specs.List.{flat_map, range_with_len}
use Rattle.field_monty.specs.Quartic.{Quartic, quartic_ring}
use Rattle.field.specs.Residue.{Residue, residue_of, residue_same}
use Rattle.field.specs.ResidueRing.{residue_ring}
use Rattle.field.specs.Ring.{Ring}
use Rattle.lookup_generation.proofs.ShiftLaws.{AreShifted, shifted_more}
use Rattle.lookup_generation.specs.Ranges.{shifted_row}
use Rattle.c_tables.specs.Numbers.{AreNumberGroupsBelow, IsNumberGroup, numbers_of, quartic_of_numbers}
use Rattle.matrix.specs.Matrix.{IsShaped, height, row}
use Rattle.c_calls.specs.Shift.{shift_rows, shifted_cells}

-- the ring of the quartic extension by X^4 - w
abbrev pub ring_of_four : {p : ℕ} → 0 < p → ℕ → Ring (Quartic (Residue p))
ring_of_four {p} positive w = quartic_ring (residue_ring p positive) (residue_of p positive w)

module _ {p : ℕ} (positive : 0 < p) where
  -- a number below the modulus is its own residue
  same_number : (n : ℕ) → n < p → (residue_of p positive n).value ≡ n
  same_number n below = mod-eq_of_lt below

  -- an element is that of its number
  same_element : (x : Residue p) → residue_of p positive x.value ≡ x
  same_element x = residue_same (residue_of p positive x.value) x (same_number x.value x.below)

  -- an element of the extension is that of its numbers
  pub same_quartic : (x : Quartic (Residue p)) → quartic_of_numbers positive (numbers_of x) ≡ x
  same_quartic x i = record {
    c0 = same_element x.c0 i;
    c1 = same_element x.c1 i;
    c2 = same_element x.c2 i;
    c3 = same_element x.c3 i;
  }

  -- and its numbers are below the modulus
  pub is_group : (x : Quartic (Residue p)) → IsNumberGroup p (numbers_of x)
  is_group x = record { n0 = x.c0.below; n1 = x.c1.below; n2 = x.c2.below; n3 = x.c3.below }

  -- four numbers below the modulus are those of their element
  same_group : (g : List ℕ) → length g ≡ 4 → IsNumberGroup p g → numbers_of (quartic_of_numbers positive g) ≡ g
  same_group (a ∷ b ∷ c ∷ d ∷ []) four is = λ i. same_number a is.n0 i ∷ same_number b is.n1 i ∷ same_number c is.n2 i ∷ same_number d is.n3 i ∷ []
  same_group g four is = absurd (omega (arith, four))

  -- so are groups of them
  pub same_groups : (gs : List (List ℕ)) → All (λ g. length g ≡ 4) gs → AreNumberGroupsBelow p (length gs) gs → map numbers_of (map (quartic_of_numbers positive) gs) ≡ gs
  same_groups [] fours below = refl
  same_groups (g ∷ gs) fours below = λ i.
      same_group g (All-head (λ h. length h ≡ 4) g gs fours) (below 0 g (omega arith) refl) i
      ∷ same_groups gs (All-tail (λ h. length h ≡ 4) g gs fours) (λ k h lt there. below (suc k) h (omega (arith, lt)) there) i

  -- how many rows so many cells make
  pub row_count_is : (cells : List (List ℕ)) (width rows : ℕ) → rows ≡ (if width == 0 then 0 else (length cells / width)) → height (shift_rows positive cells width) ≡ rows
  row_count_is cells width rows is = (λ i. if width == 0 then 0 else (length-map cells (quartic_of_numbers positive) i / width)) ∙ sym is

  module _ (R : Ring (Quartic (Residue p))) (offset : Quartic (Residue p)) (width : ℕ) (old : List (List ℕ)) where
    -- the first so many rows are shifted, the others are as they were
    pub record AreCellsShifted (rows : ℕ) (cells : List (List ℕ)) : Type 0 where
      pub elements : List (Quartic (Residue p))
      pub cells_are : cells ≡ map numbers_of elements
      pub shifted : AreShifted R offset (map (quartic_of_numbers positive) old) width rows elements

    -- none is
    pub none_shifted : All (λ g. length g ≡ 4) old → AreNumberGroupsBelow p (length old) old → AreCellsShifted 0 old
    none_shifted fours below =
        let none : 0 * width ≡ 0 = omega arith in
        record {
          elements = map (quartic_of_numbers positive) old;
          cells_are = sym (same_groups old fours below);
          shifted = record { cells_are = ap (λ n. drop n (map (quartic_of_numbers positive) old)) (sym none); long = sym none };
        }

    -- the first cell of a further row is there
    pub cell_there : (cells : List (List ℕ)) (i : ℕ) → IsShaped (shift_rows positive old width) → i < height (shift_rows positive old width) → length cells ≡ length old → i * width < length cells
    cell_there cells i shape lt many = by_width width refl
      where
        by_width : (w : ℕ) → width ≡ w → i * width < length cells
        by_width zero none = absurd (omega (arith, lt, ap (λ w. height (shift_rows positive old w)) none))
        by_width (suc v) wide =
            omega (arith, mul-add-lt i width 0 (height (shift_rows positive old width)) lt (omega (arith, wide)), mul_comm width (height (shift_rows positive old width)), shape, length-map old (quartic_of_numbers positive), many)

    -- one more is
    pub cells_more : (cells after : List (List ℕ)) (i : ℕ) (x y : Quartic (Residue p)) → IsShaped (shift_rows positive old width) → i < height (shift_rows positive old width) → i * width < length cells → x ≡ quartic_of_numbers positive (get_or cells (i * width) []) → y ≡ R.add offset x
        → after ≡ set cells (i * width) (numbers_of y) → AreCellsShifted i cells → AreCellsShifted (i + 1) after
    cells_more cells after i x y shape high room is sum after_is before =
        let there : i * width < length before.elements = omega (arith, room, ap length before.cells_are, length-map before.elements numbers_of) in
        let here : x ≡ get_or before.elements (i * width) x =
        is ∙ ap (λ cs. quartic_of_numbers positive (get_or cs (i * width) [])) before.cells_are ∙ ap (quartic_of_numbers positive) (get_or-map numbers_of before.elements (i * width) x [] there) ∙ same_quartic (get_or before.elements (i * width) x) in
        record {
          elements = set before.elements (i * width) y;
          cells_are = after_is ∙ ap (λ cs. set cs (i * width) (numbers_of y)) before.cells_are ∙ sym (map-set numbers_of before.elements (i * width) y);
          shifted = shifted_more R offset (map (quartic_of_numbers positive) old) width before.elements i x y shape high here sum before.shifted;
        }

    -- and a cell of the others is an element
    pub cell_is_group : (cells : List (List ℕ)) (i at : ℕ) → at < length cells → AreCellsShifted i cells → IsNumberGroup p (get_or cells at [])
    cell_is_group cells i at room before =
        let there : at < length before.elements = omega (arith, room, ap length before.cells_are, length-map before.elements numbers_of) in
        let zero_quartic = quartic_of_numbers positive [] in
        subst (IsNumberGroup p) (sym (ap (λ cs. get_or cs at []) before.cells_are ∙ get_or-map numbers_of before.elements at zero_quartic [] there)) (is_group (get_or before.elements at zero_quartic))

    -- all are
    pub all_shifted : (cells : List (List ℕ)) (i : ℕ) → IsShaped (shift_rows positive old width) → i ≡ height (shift_rows positive old width) → AreCellsShifted i cells → cells ≡ shifted_cells positive R offset width old
    all_shifted cells i shape all before =
        let row_at = λ (r : ℕ). shifted_row R offset (row (shift_rows positive old width) r) in
        let none_left : drop (i * width) (map (quartic_of_numbers positive) old) ≡ [] = drop_all (i * width) (map (quartic_of_numbers positive) old) (omega (arith, shape, ap (λ n. n * width) all)) in
        before.cells_are
        ∙ ap (map numbers_of) (before.shifted.cells_are ∙ (λ k. flat_map row_at (range_with_len 0 (all k)) ++ none_left k) ∙ append-nil (flat_map row_at (range_with_len 0 (height (shift_rows positive old width)))))
