-- What holds of each item of a list: by recursion, which lemmas take apart, and by index (`All`), as loops have it.
use Rattle.std.proofs.Common.{◌≡◌, ℕ, zero, suc, ◌+◌, ◌<◌, ◌≤◌, Bool, true, false, cond, ◌||◌, Some, List, [], ◌∷◌, ◌++◌, All, length, map, take, get_or, refl, sym, ap, subst, ◌∙◌, arith}
use Rattle.std.proofs.lemmas.List.{get_or-map, length-map, map_push}
use Rattle.std.proofs.lemmas.List.Elements.{All-append, All-head, All-nil, All-push, All-tail}
use Rattle.std.proofs.lemmas.Option.{slice_get-get_or, slice_get_within}
use Rattle.std.specs.List.{AllByRecursion, filter, flat_map, list_any, range_with_len, slice_get}
use Rattle.list_laws.proofs.Items.{HoldsBelow, take_item}

module _ {A : Type 0} (P : A → Type 0) where
  -- what holds of each of two lists together holds of each of the one, and of the other
  pub all_front : (xs ys : List A) → AllByRecursion P (xs ++ ys) → AllByRecursion P xs
  all_front [] ys all = tt
  all_front (x ∷ xs) ys all = (all.0, all_front xs ys all.1)

  pub all_back : (xs ys : List A) → AllByRecursion P (xs ++ ys) → AllByRecursion P ys
  all_back [] ys all = all
  all_back (x ∷ xs) ys all = all_back xs ys all.1

  pub all_both : (xs ys : List A) → AllByRecursion P xs → AllByRecursion P ys → AllByRecursion P (xs ++ ys)
  all_both [] ys first second = second
  all_both (x ∷ xs) ys first second = (first.0, all_both xs ys first.1 second)

  -- what holds of each item holds of the one at an index
  pub all_here : (xs : List A) (i : ℕ) (d : A) → i < length xs → AllByRecursion P xs → P (get_or xs i d)
  all_here [] i d lt all = absurd (omega (arith, lt))
  all_here (x ∷ xs) zero d lt all = all.0
  all_here (x ∷ xs) (suc i) d lt all = all_here xs i d (omega (arith, lt)) all.1

  pub all_there : (xs : List A) (i : ℕ) (x : A) → AllByRecursion P xs → slice_get xs i ≡ Some x → P x
  all_there [] i x all e = absurd (cc e)
  all_there (y ∷ ys) zero x all e = let is : y ≡ x = cc e in subst P is all.0
  all_there (y ∷ ys) (suc i) x all e = all_there ys i x all.1 e

  -- what holds of the items at their indices holds of each
  pub all_indexed : (xs : List A) → ((i : ℕ) (x : A) → i < length xs → x ≡ get_or xs i x → P x) → AllByRecursion P xs
  all_indexed [] each = tt
  all_indexed (x ∷ xs) each =
      (each 0 x (omega arith) refl, all_indexed xs (λ i y lt is. each (suc i) y (omega (arith, lt)) is))

  -- what holds of everything
  pub each_of : ((x : A) → P x) → (xs : List A) → AllByRecursion P xs
  each_of each [] = tt
  each_of each (x ∷ xs) = (each x, each_of each xs)

  -- what holds of each item holds of the first ones, and of those that are kept
  pub all_take : (n : ℕ) (xs : List A) → AllByRecursion P xs → AllByRecursion P (take n xs)
  all_take zero xs all = tt
  all_take (suc n) [] all = tt
  all_take (suc n) (x ∷ xs) all = (all.0, all_take n xs all.1)

  pub all_kept : (p : A → Bool) (xs : List A) → AllByRecursion P xs → AllByRecursion P (filter p xs)
  all_kept p [] h = tt
  all_kept p (x ∷ xs) h = by_test (p x) (all_kept p xs h.1)
    where
      by_test : (b : Bool) → AllByRecursion P (filter p xs) → AllByRecursion P (cond b (x ∷ filter p xs) (filter p xs))
      by_test true rest = (h.0, rest)
      by_test false rest = rest

  -- what holds of each image holds of each item's image, and the other way round
  pub all_of_map : {B : Type 0} (f : B → A) (xs : List B) → AllByRecursion P (map f xs) → AllByRecursion (λ x. P (f x)) xs
  all_of_map f [] all = tt
  all_of_map f (x ∷ xs) all = (all.0, all_of_map f xs all.1)

  pub all_images : {B : Type 0} (f : B → A) (xs : List B) → AllByRecursion (λ x. P (f x)) xs → AllByRecursion P (map f xs)
  all_images f [] all = tt
  all_images f (x ∷ xs) all = (all.0, all_images f xs all.1)

  -- what holds of the parts put together holds of each part, and the other way round
  pub all_parts : {B : Type 0} (f : B → List A) (xs : List B) → AllByRecursion P (flat_map f xs) → AllByRecursion (λ x. AllByRecursion P (f x)) xs
  all_parts f [] all = tt
  all_parts f (x ∷ xs) all = (all_front (f x) (flat_map f xs) all, all_parts f xs (all_back (f x) (flat_map f xs) all))

  pub all_joined : {B : Type 0} (f : B → List A) (xs : List B) → AllByRecursion (λ x. AllByRecursion P (f x)) xs → AllByRecursion P (flat_map f xs)
  all_joined f [] all = tt
  all_joined f (x ∷ xs) all = all_both (f x) (flat_map f xs) all.0 (all_joined f xs all.1)

-- a fact of each item, carried to another that it gives
pub all_weaker : {A : Type 0} (P Q : A → Type 0) → ((x : A) → P x → Q x) → (xs : List A) → AllByRecursion P xs → AllByRecursion Q xs
all_weaker P Q f [] h = tt
all_weaker P Q f (x ∷ xs) h = (f x h.0, all_weaker P Q f xs h.1)

-- two facts of each item that give a third
pub all_with : {A : Type 0} (P Q S : A → Type 0) → ((x : A) → P x → Q x → S x) → (xs : List A) → AllByRecursion P xs → AllByRecursion Q xs → AllByRecursion S xs
all_with P Q S f [] h k = tt
all_with P Q S f (x ∷ xs) h k = (f x h.0 k.0, all_with P Q S f xs h.1 k.1)

-- the items that are kept pass the test
pub filter_passes : {A : Type 0} (p : A → Bool) (xs : List A) → AllByRecursion (λ x. p x ≡ true) (filter p xs)
filter_passes p [] = tt
filter_passes p (x ∷ xs) = by_test (p x) refl (filter_passes p xs)
  where
    by_test : (b : Bool) → p x ≡ b → AllByRecursion (λ y. p y ≡ true) (filter p xs) → AllByRecursion (λ y. p y ≡ true) (cond b (x ∷ filter p xs) (filter p xs))
    by_test true e rest = (e, rest)
    by_test false e rest = rest

-- where no item passes a test each fails it
pub none_any : {A : Type 0} (p : A → Bool) (xs : List A) → list_any p xs ≡ false → AllByRecursion (λ x. p x ≡ false) xs
none_any p [] none = tt
none_any p (x ∷ xs) none = by_test (p x) refl none (none_any p xs)
  where
    by_test : (b : Bool) → p x ≡ b → (b || list_any p xs) ≡ false → (list_any p xs ≡ false → AllByRecursion (λ y. p y ≡ false) xs) → AllByRecursion (λ y. p y ≡ false) (x ∷ xs)
    by_test true e none rest = absurd (cc none)
    by_test false e none rest = (e, rest none)

-- what holds at each number of a range
pub all_range : (P : ℕ → Type 0) (a m : ℕ) → ((r : ℕ) → r < a + m → P r) → AllByRecursion P (range_with_len a m)
all_range P a zero each = tt
all_range P a (suc m) each = (each a (omega arith), all_range P (a + 1) m (λ r lt. each r (omega (arith, lt))))

module _ {A : Type 0} (P : A → Type 0) where
  -- by index: what holds of each item holds of the one at an index
  pub All-at : (xs : List A) (i : ℕ) (x : A) → All P xs → i < length xs → x ≡ get_or xs i x → P x
  All-at xs i x all lt is = subst P (sym is) (all i x lt)

  pub All-there : (xs : List A) (i : ℕ) (x : A) → All P xs → slice_get xs i ≡ Some x → P x
  All-there xs i x all there =
      let lt : i < length xs = slice_get_within xs i x there in
      let is : get_or xs i x ≡ x = cc (sym (slice_get-get_or xs i x lt) ∙ there) in
      subst P is (all i x lt)

  -- what holds at the first n indices of a list that has no more holds of all
  pub All-held : (xs : List A) (n : ℕ) → length xs ≤ n → HoldsBelow P xs n → All P xs
  All-held xs n all so_far k d lt = so_far k (get_or xs k d) (omega (arith, lt, all)) (slice_get-get_or xs k d lt)

  -- what holds of each image holds of each item's image
  pub All-of_map : {B : Type 0} (f : B → A) (xs : List B) → All P (map f xs) → All (λ x. P (f x)) xs
  All-of_map f xs all k d lt = subst P (get_or-map f xs k d (f d) lt) (all k (f d) (omega (arith, length-map xs f, lt)))

  -- the images of the first items, with one more
  pub All-more_images : {B : Type 0} (f : B → A) (xs : List B) (i : ℕ) (x : B) → i < length xs → x ≡ get_or xs i x → P (f x) → All P (map f (take i xs)) → All P (map f (take (i + 1) xs))
  All-more_images f xs i x lt is one all =
      subst (λ (ys : List A). All P ys) (sym (ap (map f) (take_item xs i x lt is) ∙ map_push f (take i xs) x)) (All-push P (map f (take i xs)) (f x) all one)

  -- what holds of each item of each part holds of each item of all parts
  pub All-parts : {B : Type 0} (f : B → List A) (xs : List B) → All (λ x. All P (f x)) xs → All P (flat_map f xs)
  All-parts f [] all = All-nil P
  All-parts f (x ∷ xs) all =
      All-append P (f x) (flat_map f xs) (All-head (λ y. All P (f y)) x xs all) (All-parts f xs (All-tail (λ y. All P (f y)) x xs all))
