-- The first width that differs from the first one.
use Rattle.std.proofs.Common.{◌≡◌, ◌≢◌, ◌<◌, ◌+◌, ℕ, zero, suc, Bool, false, not, List, [], ◌∷◌, ◌++◌, None, Some, find, nat_eq, slice_get, get_or, length, map, take, drop, sym, ap, ◌∙◌, arith, inl, inr}
use Rattle.std.proofs.lemmas.Bool.Decides.{Decides-eqb}
use Rattle.std.specs.List.{AllByRecursion, flat_map}
use Rattle.std.proofs.lemmas.List.Folds.{flat_map-map}
use Rattle.list_laws.proofs.Images.{find-append, find-first}
use Rattle.list_laws.proofs.Each.{all_joined, all_kept, all_parts, each_of}
use Rattle.list_laws.proofs.Items.{first_stays}
use Rattle.list_laws.proofs.Parts.{flat_next, flat_split, singles}
use Rattle.lookup_model.specs.Names.{is_named}
use Rattle.lookup_model.specs.Outline.{Outline}
use Rattle.lookup.specs.Buses.{bus_names, on_bus}
use Rattle.lookup.specs.BusWidths.{HasOneWidth, HaveBusWidths, bus_widths, widths_of}
use Rattle.std.proofs.lemmas.Bool.{cases_Bool}
use Rattle.lookup.specs.TupleWidths.{HasOtherWidth}

-- the test of a width that is not this one
abbrev pub is_other : ℕ → ℕ → Bool
is_other width w = not (nat_eq w width)

-- where no other width is found all are the same
pub all_same : (width : ℕ) (ws : List ℕ) → find (is_other width) ws ≡ None → AllByRecursion (λ w. w ≡ width) ws
all_same width [] e = tt
all_same width (w ∷ ws) e = grind (arith, all_same width ws, Decides-eqb w width, e)

-- the index of the first other width
pub record IsFirstOther (ws : List ℕ) (width other : ℕ) : Type 0 where
  pub index : ℕ
  pub differs : other ≢ width
  pub found : slice_get ws index ≡ Some other
  pub before : (i v : ℕ) → i < index → slice_get ws i ≡ Some v → v ≡ width

first_other : (width other : ℕ) (ws : List ℕ) → find (is_other width) ws ≡ Some other → IsFirstOther ws width other
first_other width other [] e = absurd (cc e)
first_other width other (w ∷ ws) e = elim (cases_Bool (is_other width w)) [
  | inl f ↦
      let is : w ≡ other = grind (arith, e, f) in
      record { index = 0; differs = grind (arith, Decides-eqb w width, f, is); found = ap Some is; before = λ i v lt. absurd (omega (arith, lt)) }
  | inr f ↦
      let later = first_other width other ws (grind (arith, e, f)) in
      record { index = suc later.index; differs = later.differs; found = later.found; before = earlier f later }
]
  where
    earlier : is_other width w ≡ false → (later : IsFirstOther ws width other) (i v : ℕ) → i < suc later.index → slice_get (w ∷ ws) i ≡ Some v → v ≡ width
    earlier f later zero v lt there = grind (arith, Decides-eqb w width, f, there)
    earlier f later (suc i) v lt there = later.before i v (omega (arith, lt)) there

-- the first width and the first other one
pub has_other : (width other : ℕ) (ws : List ℕ) → slice_get ws 0 ≡ Some width → find (is_other width) ws ≡ Some other → HasOtherWidth ws width other
has_other width other ws first found =
    let at = first_other width other ws found in
    record { index = at.index; first = first; differs = at.differs; found = at.found; before = at.before }

module _ {A B C : Type 0} (g : B → List C) (f : A → B) (xs : List A) (i : ℕ) (x : A) (lt : i < length xs) (is : x ≡ get_or xs i x) where
  -- the parts of all items, and those of the items below an index
  abbrev parts : A → List C
  parts z = g (f z)

  whole : flat_map g (map f xs) ≡ flat_map parts (take i xs) ++ (g (f x) ++ flat_map parts (drop (i + 1) xs))
  whole = flat_map-map g f xs ∙ flat_split parts xs i x lt is

  -- nothing is found in the images below an index, and something in that of the item there
  pub found_in : (p : C → Bool) (y : C) → find p (flat_map g (map f (take i xs))) ≡ None → find p (g (f x)) ≡ Some y → find p (flat_map g (map f xs)) ≡ Some y
  found_in p y none found =
      ap (find p) whole
      ∙ find-append p (flat_map parts (take i xs)) (g (f x) ++ flat_map parts (drop (i + 1) xs)) (ap (find p) (sym (flat_map-map g f (take i xs))) ∙ none)
      ∙ find-first p (g (f x)) (flat_map parts (drop (i + 1) xs)) y found

  -- nothing is found there either
  pub passed_in : (p : C → Bool) → find p (flat_map g (map f (take i xs))) ≡ None → find p (g (f x)) ≡ None → find p (flat_map g (map f (take (i + 1) xs))) ≡ None
  passed_in p none nothing =
      ap (find p) (flat_map-map g f (take (i + 1) xs) ∙ flat_next parts xs i x lt is)
      ∙ find-append p (flat_map parts (take i xs)) (g (f x)) (ap (find p) (sym (flat_map-map g f (take i xs))) ∙ none)
      ∙ nothing

  -- the first of all images, where those below the index are empty
  pub first_in : (y : C) → flat_map g (map f (take i xs)) ≡ [] → slice_get (g (f x)) 0 ≡ Some y → slice_get (flat_map g (map f xs)) 0 ≡ Some y
  first_in y none there =
      ap (λ t. slice_get t 0) (whole ∙ ap (λ t. t ++ (g (f x) ++ flat_map parts (drop (i + 1) xs))) (sym (flat_map-map g f (take i xs)) ∙ none))
      ∙ first_stays (g (f x)) (flat_map parts (drop (i + 1) xs)) y there

module _ {A : Type 0} (f : A → ℕ) (width : ℕ) (xs : List A) (i : ℕ) (x : A) (lt : i < length xs) (is : x ≡ get_or xs i x) (none : find (is_other width) (map f (take i xs)) ≡ None) where
  below : find (is_other width) (flat_map (λ n. n ∷ []) (map f (take i xs))) ≡ None
  below = ap (find (is_other width)) (singles (map f (take i xs))) ∙ none

  -- the first other width is that of the item at an index
  pub other_here : f x ≢ width → find (is_other width) (map f xs) ≡ Some (f x)
  other_here differs =
      ap (find (is_other width)) (sym (singles (map f xs)))
      ∙ found_in (λ n. n ∷ []) f xs i x lt is (is_other width) (f x) below (grind (arith, Decides-eqb (f x) width, differs))

  -- or it is not there
  pub not_here : f x ≡ width → find (is_other width) (map f (take (i + 1) xs)) ≡ None
  not_here same =
      ap (find (is_other width)) (sym (singles (map f (take (i + 1) xs))))
      ∙ passed_in (λ n. n ∷ []) f xs i x lt is (is_other width) below (grind (arith, Decides-eqb (f x) width, same))

-- where all tuples have one width, those on each bus do
pub all_buses : {E : Type 0} (os : List (Outline E)) → HasOneWidth (flat_map widths_of os) → HaveBusWidths os
all_buses {E} os (width, all) =
    let same = λ (w : ℕ). w ≡ width in
    each_of (λ name. HasOneWidth (bus_widths name os))
    (λ name. (width, all_joined same widths_of (on_bus name os) (all_kept (λ o. AllByRecursion same (widths_of o)) (λ o. is_named name o.bus) os (all_parts same widths_of os all)))) (bus_names os)
