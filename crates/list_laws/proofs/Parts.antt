-- Parts of a list put together, and the part of the whole that each is.
use Rattle.std.proofs.Common.{◌≡◌, ℕ, zero, suc, ◌+◌, ◌-◌, ◌*◌, ◌<◌, ◌≤◌, List, [], ◌∷◌, ◌++◌, length, map, take, drop, get_or, refl, sym, ap, ◌∙◌, arith}
use Rattle.std.proofs.Math.Seq.{drop-append-add, take-append_seam}
use Rattle.std.proofs.lemmas.Grind.{flat_map-append}
use Rattle.std.proofs.lemmas.List.{append-nil, append_assoc, drop_all, length-append, map-append, take-append-drop}
use Rattle.std.proofs.lemmas.List.Folds.{drop_split}
use Rattle.std.specs.List.{AllByRecursion, flat_map, range_with_len, slice_range}
use Rattle.list_laws.proofs.Items.{range_more, take_item}

module _ {A B : Type 0} (f : A → List B) where
  -- the parts of the items up to one, and with it
  pub flat_next : (xs : List A) (i : ℕ) (x : A) → i < length xs → x ≡ get_or xs i x → flat_map f (take (i + 1) xs) ≡ flat_map f (take i xs) ++ f x
  flat_next xs i x lt is =
      ap (flat_map f) (take_item xs i x lt is) ∙ flat_map-append f (take i xs) (x ∷ []) ∙ ap (λ t. flat_map f (take i xs) ++ t) (append-nil (f x))

  -- the parts of the items before one, its own part, and those of the rest
  pub flat_split : (xs : List A) (i : ℕ) (x : A) → i < length xs → x ≡ get_or xs i x → flat_map f xs ≡ flat_map f (take i xs) ++ (f x ++ flat_map f (drop (i + 1) xs))
  flat_split xs i x lt is =
      ap (flat_map f) (sym (take-append-drop (i + 1) xs)) ∙ flat_map-append f (take (i + 1) xs) (drop (i + 1) xs)
      ∙ ap (λ t. t ++ flat_map f (drop (i + 1) xs)) (flat_next xs i x lt is) ∙ append_assoc (flat_map f (take i xs)) (f x) (flat_map f (drop (i + 1) xs))

  -- one more part is appended to others
  pub parts_next : (done more : List A) (x : A) (old before after : List B) → more ≡ done ++ x ∷ [] → before ≡ old ++ flat_map f done → after ≡ before ++ f x → after ≡ old ++ flat_map f more
  parts_next done more x old before after next so_far added =
      added ∙ ap (λ t. t ++ f x) so_far ∙ append_assoc old (flat_map f done) (f x)
      ∙ ap (λ t. old ++ t) (sym (ap (flat_map f) next ∙ flat_map-append f done (x ∷ []) ∙ ap (λ t. flat_map f done ++ t) (append-nil (f x))))

  -- no items for any
  pub nothing_flat : (xs : List A) → AllByRecursion (λ x. f x ≡ []) xs → flat_map f xs ≡ []
  nothing_flat [] none = refl
  nothing_flat (x ∷ xs) none = λ i. none.0 i ++ nothing_flat xs none.1 i

  -- parts of one length
  pub length-parts : (width : ℕ) (xs : List A) → AllByRecursion (λ x. length (f x) ≡ width) xs → length (flat_map f xs) ≡ length xs * width
  length-parts width [] wide = omega arith
  length-parts width (x ∷ xs) wide = length-append (f x) (flat_map f xs) ∙ (λ i. wide.0 i + length-parts width xs wide.1 i) ∙ omega arith

  -- one of them
  pub part_at : (width : ℕ) (xs : List A) → AllByRecursion (λ x. length (f x) ≡ width) xs → (k : ℕ) (x : A) → k < length xs → x ≡ get_or xs k x → take width (drop (k * width) (flat_map f xs)) ≡ f x
  part_at width [] wide k x lt is = absurd (omega (arith, lt))
  part_at width (y ∷ ys) wide zero x lt is =
      let none : 0 * width ≡ 0 = omega arith in
      ap (λ n. take width (drop n (f y ++ flat_map f ys))) none
      ∙ ap (λ n. take n (f y ++ flat_map f ys)) (sym wide.0) ∙ take-append_seam (f y) (flat_map f ys) ∙ ap f (sym is)
  part_at width (y ∷ ys) wide (suc k) x lt is =
      let further : suc k * width ≡ length (f y) + k * width = omega (arith, wide.0) in
      ap (λ n. take width (drop n (f y ++ flat_map f ys))) further
      ∙ ap (take width) (drop-append-add (f y) (flat_map f ys) (k * width))
      ∙ part_at width ys wide.1 k x (omega (arith, lt)) is

-- functions with the same value at each item give the same parts
pub flat_same : {A B : Type 0} (f g : A → List B) (xs : List A) → AllByRecursion (λ x. f x ≡ g x) xs → flat_map f xs ≡ flat_map g xs
flat_same f g [] each = refl
flat_same f g (x ∷ xs) each = λ i. each.0 i ++ flat_same f g xs each.1 i

-- parts of parts
pub flat_map-flat_map : {A B C : Type 0} (f : B → List C) (g : A → List B) (xs : List A) → flat_map f (flat_map g xs) ≡ flat_map (λ x. flat_map f (g x)) xs
flat_map-flat_map f g [] = refl
flat_map-flat_map f g (x ∷ xs) = flat_map-append f (g x) (flat_map g xs) ∙ ap (λ t. flat_map f (g x) ++ t) (flat_map-flat_map f g xs)

-- images of parts
pub map-flat_map : {A B C : Type 0} (g : B → C) (f : A → List B) (xs : List A) → map g (flat_map f xs) ≡ flat_map (λ x. map g (f x)) xs
map-flat_map g f [] = refl
map-flat_map g f (x ∷ xs) = map-append g (f x) (flat_map f xs) ∙ ap (λ t. map g (f x) ++ t) (map-flat_map g f xs)

-- parts of one item each
pub singles : {A : Type 0} (xs : List A) → flat_map (λ x. x ∷ []) xs ≡ xs
singles [] = refl
singles (x ∷ xs) = ap (λ t. x ∷ t) (singles xs)

module _ {A : Type 0} (f : ℕ → List A) where
  -- the parts for a range and the next number
  pub flat_more : (m : ℕ) → flat_map f (range_with_len 0 (m + 1)) ≡ flat_map f (range_with_len 0 m) ++ f m
  flat_more m =
      let at : 0 + m ≡ m = omega arith in
      ap (flat_map f) (range_more 0 m) ∙ flat_map-append f (range_with_len 0 m) ((0 + m) ∷ []) ∙ ap (λ t. flat_map f (range_with_len 0 m) ++ t) (append-nil (f (0 + m)) ∙ ap f at)

  -- functions with the same value at each number below a bound give the same parts
  pub same_parts : (g : ℕ → List A) (a m : ℕ) → ((r : ℕ) → r < a + m → f r ≡ g r) → flat_map f (range_with_len a m) ≡ flat_map g (range_with_len a m)
  same_parts g a zero each = refl
  same_parts g a (suc m) each = λ i. each a (omega arith) i ++ same_parts g (a + 1) m (λ r lt. each r (omega (arith, lt))) i

  -- parts of one length
  pub length_rows : (width a m : ℕ) → ((r : ℕ) → r < a + m → length (f r) ≡ width) → length (flat_map f (range_with_len a m)) ≡ m * width
  length_rows width a zero each = omega arith
  length_rows width a (suc m) each =
      length-append (f a) (flat_map f (range_with_len (a + 1) m))
      ∙ omega (arith, each a (omega arith), length_rows width (a + 1) m (λ r lt. each r (omega (arith, lt))))

  part_of : (width a m k : ℕ) → ((i : ℕ) → a ≤ i → i < a + m → length (f i) ≡ width) → k < m → take width (drop (k * width) (flat_map f (range_with_len a m))) ≡ f (a + k)
  part_of width a zero k each lt = absurd (omega (arith, lt))
  part_of width a (suc m) zero each lt =
      let rest = flat_map f (range_with_len (a + 1) m) in
      let none : 0 * width ≡ 0 = omega arith in
      ap (λ n. take width (drop n (f a ++ rest))) none
      ∙ ap (λ n. take n (f a ++ rest)) (sym (each a (omega arith) (omega arith))) ∙ take-append_seam (f a) rest ∙ ap f (omega arith)
  part_of width a (suc m) (suc k) each lt =
      let rest = flat_map f (range_with_len (a + 1) m) in
      let further : suc k * width ≡ length (f a) + k * width = omega (arith, each a (omega arith) (omega arith)) in
      ap (λ n. take width (drop n (f a ++ rest))) further
      ∙ ap (take width) (drop-append-add (f a) rest (k * width))
      ∙ part_of width (a + 1) m k (λ i low high. each i (omega (arith, low)) (omega (arith, high))) (omega (arith, lt))
      ∙ ap f (omega arith)

  -- row r of rows of one length
  pub row_of_parts : (width h r : ℕ) → ((i : ℕ) → i < h → length (f i) ≡ width) → r < h → slice_range (flat_map f (range_with_len 0 h)) (r * width) ((r + 1) * width) ≡ f r
  row_of_parts width h r each lt =
      let wide : (r + 1) * width - r * width ≡ width = omega arith in
      ap (λ n. take n (drop (r * width) (flat_map f (range_with_len 0 h)))) wide
      ∙ part_of width 0 h r (λ i low high. each i (omega (arith, high))) lt ∙ ap f (omega arith)

module _ {A : Type 0} where
  -- parts of one length put together are the list
  joined_from : (xs : List A) (width h a m : ℕ) → length xs ≡ h * width → a + m ≡ h → flat_map (λ r. slice_range xs (r * width) ((r + 1) * width)) (range_with_len a m) ≡ drop (a * width) xs
  joined_from xs width h a zero long at =
      let whole : a * width ≡ length xs = ap (λ n. n * width) (omega (arith, at)) ∙ sym long in
      sym (drop_all (a * width) xs (omega (arith, whole)))
  joined_from xs width h a (suc m) long at =
      ap (λ t. slice_range xs (a * width) ((a + 1) * width) ++ t) (joined_from xs width h (a + 1) m long (omega (arith, at)))
      ∙ sym (drop_split xs (a * width) ((a + 1) * width) (omega arith))

  pub joined_rows : (xs : List A) (width h : ℕ) → length xs ≡ h * width → flat_map (λ r. slice_range xs (r * width) ((r + 1) * width)) (range_with_len 0 h) ≡ xs
  joined_rows xs width h long =
      let none : 0 * width ≡ 0 = omega arith in
      joined_from xs width h 0 h long (omega arith) ∙ ap (λ n. drop n xs) none
