-- Lists that are mapped and filtered.
use Rattle.std.proofs.Common.{◌≡◌, ℕ, zero, suc, ◌+◌, ◌<◌, Bool, true, false, cond, None, Some, List, [], ◌∷◌, ◌++◌, length, map, option_map, take, get_or, refl, sym, ap, ◌∙◌, arith}
use Rattle.std.proofs.lemmas.List.{append-nil, append_assoc, get_or-map, length-map, map_more, take_more}
use Rattle.std.proofs.lemmas.List.Sums.{sum_by-cons}
use Rattle.std.proofs.lemmas.Option.{slice_get-map}
use Rattle.std.specs.List.{AllByRecursion, filter, find, range_with_len, slice_get, sum_by}
use Rattle.list_laws.proofs.Each.{filter_passes}
use Rattle.list_laws.proofs.Items.{some_is}

-- a map of a map
pub map-map : {A B C : Type 0} (g : B → C) (f : A → B) (xs : List A) → map g (map f xs) ≡ map (λ x. g (f x)) xs
map-map g f [] = refl
map-map g f (x ∷ xs) = ap (λ t. g (f x) ∷ t) (map-map g f xs)

module _ {A B : Type 0} where
  -- functions with the same value at each item give the same list
  pub same_map : (f g : A → B) (xs : List A) → AllByRecursion (λ x. f x ≡ g x) xs → map f xs ≡ map g xs
  same_map f g [] each = refl
  same_map f g (x ∷ xs) each = λ i. each.0 i ∷ same_map f g xs each.1 i

  -- and functions that are the same everywhere
  pub map_same : (f g : A → B) → ((x : A) → f x ≡ g x) → (xs : List A) → map f xs ≡ map g xs
  map_same f g e [] = refl
  map_same f g e (x ∷ xs) = λ i. e x i ∷ map_same f g e xs i

  -- lists with the same images are equally long
  pub same_length : {C : Type 0} (f : A → C) (g : B → C) (xs : List A) (ys : List B) → map f xs ≡ map g ys → length xs ≡ length ys
  same_length f g xs ys e = sym (length-map xs f) ∙ ap length e ∙ length-map ys g

  -- an item of the image, with the image of the default past the end
  pub get_or-image : (f : A → B) (xs : List A) (i : ℕ) (d : A) → get_or (map f xs) i (f d) ≡ f (get_or xs i d)
  get_or-image f [] i d = refl
  get_or-image f (x ∷ xs) zero d = refl
  get_or-image f (x ∷ xs) (suc i) d = get_or-image f xs i d

  -- what a mapped list has at an index
  pub map_at : (f : A → B) (xs : List A) (i : ℕ) (x : A) → slice_get xs i ≡ Some x → slice_get (map f xs) i ≡ Some (f x)
  map_at f xs i x e = slice_get-map f xs i ∙ ap (option_map f) e

  -- where an item of a mapped list comes from
  pub from_map : (f : A → B) (xs : List A) (i : ℕ) (y : B) → slice_get (map f xs) i ≡ Some y → (x : A) × (slice_get xs i ≡ Some x) × (f x ≡ y)
  from_map f [] i y e = absurd (cc e)
  from_map f (x ∷ xs) zero y e = (x, refl, some_is (f x) y e)
  from_map f (x ∷ xs) (suc i) y e = from_map f xs i y e

  -- a list whose image is one item, or two, has one item, or two
  pub one_item : (f : A → B) (xs : List A) (y : B) → map f xs ≡ y ∷ [] → (x : A) × (xs ≡ x ∷ []) × (f x ≡ y)
  one_item f [] y e = absurd (cc e)
  one_item f (x ∷ []) y e = (x, refl, cc e)
  one_item f (x ∷ z ∷ xs) y e = let rest : f z ∷ map f xs ≡ [] = cc e in absurd (cc rest)

  pub two_items : (f : A → B) (xs : List A) (y z : B) → map f xs ≡ y ∷ z ∷ [] → (a : A) × (b : A) × (xs ≡ a ∷ b ∷ []) × (f a ≡ y) × (f b ≡ z)
  two_items f [] y z e = absurd (cc e)
  two_items f (a ∷ xs) y z e =
      let last = one_item f xs z (cc e) in
      (a, last.0, ap (λ t. a ∷ t) last.1, cc e, last.2)

  -- a mapped list that is in two parts is that of a list in two parts
  pub map_split : (f : A → B) (xs : List A) (front : List B) (b : B) (back : List B) → map f xs ≡ front ++ b ∷ back
      → (us : List A) × (a : A) × (vs : List A) × (xs ≡ us ++ a ∷ vs) × (map f us ≡ front) × (f a ≡ b) × (map f vs ≡ back)
  map_split f [] [] b back e = absurd (cc e)
  map_split f [] (c ∷ cs) b back e = absurd (cc e)
  map_split f (x ∷ xs) [] b back e = ([], x, xs, refl, refl, cc e, cc e)
  map_split f (x ∷ xs) (c ∷ cs) b back e =
      let head : f x ≡ c = cc e in
      let tail : map f xs ≡ cs ++ b ∷ back = cc e in
      let (us, a, vs, xs_are, front_is, a_is, back_is) = map_split f xs cs b back tail in
      (x ∷ us, a, vs, ap (λ t. x ∷ t) xs_are, (λ i. head i ∷ front_is i), a_is, back_is)

  -- a function of the indices that has the value of another at the item there
  pub by_indices : (g : ℕ → B) (h : A → B) (a : ℕ) (xs : List A) → ((k : ℕ) (x : A) → k < length xs → x ≡ get_or xs k x → g (a + k) ≡ h x) → map g (range_with_len a (length xs)) ≡ map h xs
  by_indices g h a [] each = refl
  by_indices g h a (x ∷ xs) each =
      let here : g a ≡ h x = ap g (omega arith) ∙ each 0 x (omega arith) refl in
      λ i. here i ∷ by_indices g h (a + 1) xs (λ k y lt is. ap g (omega arith) ∙ each (suc k) y (omega (arith, lt)) is) i

module _ {A B : Type 0} (f : A → B) (xs : List A) where
  -- the value of f for the item at an index
  pub mapped_at : (i : ℕ) (x : A) → i < length xs → x ≡ get_or xs i x → f x ≡ get_or (map f xs) i (f x)
  mapped_at i x lt x_is = sym (get_or-map f xs i x (f x) lt ∙ ap f (sym x_is))

  -- the first images, with one more
  pub mapped_more : (i : ℕ) (x : A) → i < length xs → x ≡ get_or xs i x → take (i + 1) (map f xs) ≡ take i (map f xs) ++ f x ∷ []
  mapped_more i x lt x_is =
      take_more (map f xs) i (f x) (omega (arith, length-map xs f)) ∙ ap (λ t. take i (map f xs) ++ t ∷ []) (sym (mapped_at i x lt x_is))

  -- the images of the first items, with one more
  pub images_more : (i : ℕ) (x : A) → i < length xs → x ≡ get_or xs i x → map f (take (i + 1) xs) ≡ map f (take i xs) ++ f x ∷ []
  images_more i x lt is = map_more f xs i x lt ∙ ap (λ t. map f (take i xs) ++ f t ∷ []) (sym is)

  -- one more image is appended to others
  pub appended_more : (i : ℕ) (x : A) (old before after : List B) → i < length xs → x ≡ get_or xs i x → before ≡ old ++ map f (take i xs) → after ≡ before ++ f x ∷ [] → after ≡ old ++ map f (take (i + 1) xs)
  appended_more i x old before after lt is so_far added =
      added ∙ ap (λ t. t ++ f x ∷ []) so_far ∙ append_assoc old (map f (take i xs)) (f x ∷ []) ∙ ap (λ t. old ++ t) (sym (images_more i x lt is))

module _ {A B : Type 0} (f : A → B) where
  -- the next item passes from what is left to what is done
  pub passed : (before after : List B) (left later : List A) (x : A) (all : List B) → after ≡ before ++ f x ∷ [] → left ≡ x ∷ later → before ++ map f left ≡ all → after ++ map f later ≡ all
  passed before after left later x all pushed next e =
      ap (λ t. t ++ map f later) pushed ∙ append_assoc before (f x ∷ []) (map f later) ∙ ap (λ t. before ++ map f t) (sym next) ∙ e

  -- where nothing is left, what is done is the whole
  pub all_passed : (done all : List B) (left : List A) → left ≡ [] → done ++ map f left ≡ all → done ≡ all
  all_passed done all left none e = sym (append-nil done) ∙ ap (λ t. done ++ map f t) (sym none) ∙ e

module _ {A : Type 0} (p : A → Bool) where
  -- all items pass, or none does
  pub filter_all : (xs : List A) → AllByRecursion (λ x. p x ≡ true) xs → filter p xs ≡ xs
  filter_all [] all = refl
  filter_all (x ∷ xs) all = ap (λ b. cond b (x ∷ filter p xs) (filter p xs)) all.0 ∙ ap (λ t. x ∷ t) (filter_all xs all.1)

  pub filter_none : (xs : List A) → AllByRecursion (λ x. p x ≡ false) xs → filter p xs ≡ []
  filter_none [] all = refl
  filter_none (x ∷ xs) all = ap (λ b. cond b (x ∷ filter p xs) (filter p xs)) all.0 ∙ filter_none xs all.1

  pub filter_again : (xs : List A) → filter p (filter p xs) ≡ filter p xs
  filter_again xs = filter_all (filter p xs) (filter_passes p xs)

  -- what is found in two lists one after the other
  pub find-append : (xs ys : List A) → find p xs ≡ None → find p (xs ++ ys) ≡ find p ys
  find-append [] ys none = refl
  find-append (x ∷ xs) ys none = by_test (p x) none (find-append xs ys)
    where
      by_test : (b : Bool) → cond b (Some x) (find p xs) ≡ None → (find p xs ≡ None → find p (xs ++ ys) ≡ find p ys) → cond b (Some x) (find p (xs ++ ys)) ≡ find p ys
      by_test true e rest = absurd (cc e)
      by_test false e rest = rest e

  pub find-first : (xs ys : List A) (y : A) → find p xs ≡ Some y → find p (xs ++ ys) ≡ Some y
  find-first [] ys y e = absurd (cc e)
  find-first (x ∷ xs) ys y e = by_test (p x) e (find-first xs ys y)
    where
      by_test : (b : Bool) → cond b (Some x) (find p xs) ≡ Some y → (find p xs ≡ Some y → find p (xs ++ ys) ≡ Some y) → cond b (Some x) (find p (xs ++ ys)) ≡ Some y
      by_test true e rest = e
      by_test false e rest = rest e

-- what passes a test of images, and the images of what passes
pub filter_images : {A B : Type 0} (f : A → B) (p : A → Bool) (q : B → Bool) → ((x : A) → q (f x) ≡ p x) → (xs : List A) → filter q (map f xs) ≡ map f (filter p xs)
filter_images f p q same [] = refl
filter_images f p q same (x ∷ xs) = ap (λ b. cond b (f x ∷ filter q (map f xs)) (filter q (map f xs))) (same x) ∙ by_test (p x) (filter_images f p q same xs)
  where
    by_test : (b : Bool) → filter q (map f xs) ≡ map f (filter p xs) → cond b (f x ∷ filter q (map f xs)) (filter q (map f xs)) ≡ map f (cond b (x ∷ filter p xs) (filter p xs))
    by_test true rest = ap (λ t. f x ∷ t) rest
    by_test false rest = rest

-- a sum over images
pub sum_by-mapped : {A B : Type 0} (f : B → ℕ) (g : A → B) (xs : List A) → sum_by f (map g xs) ≡ sum_by (λ x. f (g x)) xs
sum_by-mapped f g [] = refl
sum_by-mapped f g (x ∷ xs) = sum_by-cons f (g x) (map g xs) ∙ ap (λ n. f (g x) + n) (sum_by-mapped f g xs) ∙ sym (sum_by-cons (λ y. f (g y)) x xs)
