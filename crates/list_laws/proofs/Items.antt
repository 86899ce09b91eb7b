-- The item at an index, and the items before it.
use Rattle.std.proofs.Common.{◌≡◌, ◌⊎◌, ℕ, zero, suc, ◌+◌, ◌<◌, ◌≤◌, inl, inr, Option, None, Some, List, [], ◌∷◌, ◌++◌, length, take, drop, get_or, refl, sym, ap, subst₂, ◌∙◌, arith}
use Rattle.std.proofs.lemmas.Bool.{cases_lt}
use Rattle.std.proofs.lemmas.List.{append_assoc, map-id, take_all, take_more, take-append-drop}
use Rattle.std.proofs.lemmas.List.FromFn.{get_or-enumerate_from, get_or-range_with_len, length-enumerate_from, length-range_with_len, map-range_with_len_more}
use Rattle.std.proofs.lemmas.Option.{get_or_from_slice_get, slice_get-get_or}
use Rattle.std.specs.List.{cons_option, enumerate_from, range_with_len, slice_get}

-- an item is determined by its option
pub some_is : {A : Type 0} (a b : A) → Some a ≡ Some b → a ≡ b
some_is a b e = cc e

module _ {A : Type 0} where
  -- the item at an index within a list
  pub item_at : (xs : List A) (i : ℕ) → i < length xs → (x : A) × (x ≡ get_or xs i x)
  item_at [] i lt = absurd (omega (arith, lt))
  item_at (x ∷ xs) zero lt = (x, refl)
  item_at (x ∷ xs) (suc i) lt = item_at xs i (omega (arith, lt))

  -- an item that is read stands there
  pub item_there : (xs : List A) (i : ℕ) (x : A) → i < length xs → x ≡ get_or xs i x → slice_get xs i ≡ Some x
  item_there xs i x lt is = slice_get-get_or xs i x lt ∙ ap Some (sym is)

  -- and the one that stands there is read
  pub read_is : (xs : List A) (i : ℕ) (x y : A) → slice_get xs i ≡ Some y → x ≡ get_or xs i x → y ≡ x
  read_is xs i x y there is = sym (get_or_from_slice_get xs i y x there) ∙ sym is

  -- the items of a list stay where more comes behind
  pub slice_get-front : (xs ys : List A) (i : ℕ) → i < length xs → slice_get (xs ++ ys) i ≡ slice_get xs i
  slice_get-front [] ys i lt = absurd (omega (arith, lt))
  slice_get-front (x ∷ xs) ys zero lt = refl
  slice_get-front (x ∷ xs) ys (suc i) lt = slice_get-front xs ys i (omega (arith, lt))

  -- so does the first one
  pub first_stays : (xs ys : List A) (x : A) → slice_get xs 0 ≡ Some x → slice_get (xs ++ ys) 0 ≡ Some x
  first_stays [] ys x e = absurd (cc e)
  first_stays (y ∷ xs) ys x e = e

  -- the items up to an index and the item there
  pub take_item : (xs : List A) (i : ℕ) (x : A) → i < length xs → x ≡ get_or xs i x → take (i + 1) xs ≡ take i xs ++ x ∷ []
  take_item xs i x lt is = take_more xs i x lt ∙ ap (λ t. take i xs ++ t ∷ []) (sym is)

  -- the items before an index, the item there, and the rest
  pub split_at : (xs : List A) (i : ℕ) (x : A) → i < length xs → x ≡ get_or xs i x → xs ≡ (take i xs ++ x ∷ []) ++ drop (i + 1) xs
  split_at xs i x lt is = sym (take-append-drop (i + 1) xs) ∙ ap (λ t. t ++ drop (i + 1) xs) (take_item xs i x lt is)

  -- nothing before and behind an empty list
  pub both_empty : (xs ys : List A) → xs ++ ys ≡ [] → (xs ≡ []) × (ys ≡ [])
  both_empty [] ys e = (refl, e)
  both_empty (x ∷ xs) ys e = absurd (cc e)

  pub none_before : (o : Option A) (xs : List A) → cons_option o xs ≡ [] → (o ≡ None) × (xs ≡ [])
  none_before None xs e = (refl, e)
  none_before (Some x) xs e = absurd (cc e)

  -- a list of one item
  pub one_of : (xs : List A) → length xs ≡ 1 → (x : A) × (xs ≡ x ∷ [])
  one_of [] one = absurd (omega (arith, one))
  one_of (x ∷ []) one = (x, refl)
  one_of (x ∷ y ∷ xs) one = absurd (omega (arith, one))

  -- two lists that are the same in two parts, of which the first are equally long
  pub same_front : (a c b d : List A) → length a ≡ length b → a ++ c ≡ b ++ d → a ≡ b
  same_front [] c [] d long same = refl
  same_front [] c (y ∷ ys) d long same = absurd (omega (arith, long))
  same_front (x ∷ xs) c [] d long same = absurd (omega (arith, long))
  same_front (x ∷ xs) c (y ∷ ys) d long same =
      let here : x ≡ y = cc same in
      let later : xs ++ c ≡ ys ++ d = cc same in
      λ i. here i ∷ same_front xs c ys d (omega (arith, long)) later i

  pub same_back : (a c b d : List A) → length a ≡ length b → a ++ c ≡ b ++ d → c ≡ d
  same_back [] c [] d long same = same
  same_back [] c (y ∷ ys) d long same = absurd (omega (arith, long))
  same_back (x ∷ xs) c [] d long same = absurd (omega (arith, long))
  same_back (x ∷ xs) c (y ∷ ys) d long same =
      let later : xs ++ c ≡ ys ++ d = cc same in
      same_back xs c ys d (omega (arith, long)) later

  -- the items of a list that is handed out from the front: one more is done
  pub split_here : (all done left later : List A) (x : A) → all ≡ done ++ left → left ≡ x ∷ later → all ≡ done ++ x ∷ later
  split_here all done left later x whole next = whole ∙ ap (λ l. done ++ l) next

  pub split_more : (all done left later : List A) (x : A) → all ≡ done ++ left → left ≡ x ∷ later → all ≡ (done ++ x ∷ []) ++ later
  split_more all done left later x whole next = rw append_assoc (split_here all done left later x whole next)

module _ {A : Type 0} (P : ℕ → A → Type 0) (xs : List A) where
  -- what holds of each of the first n indices and the item there
  abbrev pub HoldsAtBelow : ℕ → Type 0
  HoldsAtBelow n = (k : ℕ) (y : A) → k < n → slice_get xs k ≡ Some y → P k y

  -- one index more
  pub holds_at_next : (i : ℕ) (x : A) → slice_get xs i ≡ Some x → P i x → HoldsAtBelow i → HoldsAtBelow (i + 1)
  holds_at_next i x x_there here so_far k y below there = elim (cases_lt k i) [
    | inl earlier ↦ so_far k y earlier there
    | inr late ↦
        let same : i ≡ k = omega (arith, late, below) in
        let x_is : x ≡ y = some_is x y (sym x_there ∙ ap (slice_get xs) same ∙ there) in
        subst₂ P same x_is here
  ]

module _ {A : Type 0} (P : A → Type 0) (xs : List A) where
  -- what holds of the items at the first n indices
  abbrev pub HoldsBelow : ℕ → Type 0
  HoldsBelow n = (k : ℕ) (y : A) → k < n → slice_get xs k ≡ Some y → P y

  -- one index more
  pub holds_next : (i : ℕ) (x : A) → slice_get xs i ≡ Some x → P x → HoldsBelow i → HoldsBelow (i + 1)
  holds_next i x x_there here so_far = holds_at_next (λ k y. P y) xs i x x_there here so_far

-- a range goes on
pub range_more : (a n : ℕ) → range_with_len a (n + 1) ≡ range_with_len a n ++ (a + n) ∷ []
range_more a n =
    sym (map-id (range_with_len a (n + 1))) ∙ map-range_with_len_more (λ x. x) a n (a + n) refl ∙ ap (λ t. t ++ (a + n) ∷ []) (map-id (range_with_len a n))

-- a number of a range
pub range_at : (a n i : ℕ) (ns : List ℕ) → ns ≡ range_with_len a n → i < n → slice_get ns i ≡ Some (a + i)
range_at a n i ns are lt =
    ap (λ l. slice_get l i) are
    ∙ slice_get-get_or (range_with_len a n) i 0 (omega (arith, length-range_with_len a n, lt))
    ∙ ap Some (get_or-range_with_len a n i 0 lt)

module _ {A : Type 0} where
  -- the numbered items of two lists, one after the other
  pub enumerate_from-append : (n : ℕ) (xs ys : List A) → enumerate_from n (xs ++ ys) ≡ enumerate_from n xs ++ enumerate_from (n + length xs) ys
  enumerate_from-append n [] ys = ap (λ k. enumerate_from k ys) (omega arith)
  enumerate_from-append n (x ∷ xs) ys =
      ap (λ t. (n, x) ∷ t) (enumerate_from-append (n + 1) xs ys ∙ ap (λ k. enumerate_from (n + 1) xs ++ enumerate_from k ys) (omega arith))

  -- an item with its number
  pub numbered_at : (n : ℕ) (xs : List A) (i : ℕ) (x : A) → slice_get xs i ≡ Some x → slice_get (enumerate_from n xs) i ≡ Some (n + i, x)
  numbered_at n [] i x e = absurd (cc e)
  numbered_at n (y ∷ ys) zero x e = let same : n ≡ n + 0 = omega arith in λ i. Some (same i, some_is y x e i)
  numbered_at n (y ∷ ys) (suc i) x e = let same : n + 1 + i ≡ n + suc i = omega arith in numbered_at (n + 1) ys i x e ∙ (λ j. Some (same j, x))

-- and with its index, where the first has number 0
pub numbered_there : {A : Type 0} (xs : List A) (i : ℕ) (x : A) → slice_get xs i ≡ Some x → slice_get (enumerate_from 0 xs) i ≡ Some (i, x)
numbered_there xs i x e = let same : 0 + i ≡ i = omega arith in numbered_at 0 xs i x e ∙ (λ j. Some (same j, x))

module _ {A : Type 0} (xs : List A) (i : ℕ) (x : A) (lt : i < length xs) (is : x ≡ get_or xs i x) where
  pub numbered_read : (i, x) ≡ get_or (enumerate_from 0 xs) i (i, x)
  numbered_read =
      let none : 0 + i ≡ i = omega arith in
      (λ k. (i, is k)) ∙ sym (get_or-enumerate_from 0 xs i (i, x) lt ∙ (λ k. (none k, get_or xs i x)))

  pub numbered_within : i < length (enumerate_from 0 xs)
  numbered_within = omega (arith, lt, length-enumerate_from 0 xs)

  -- one more of them
  pub numbered_more : take (i + 1) (enumerate_from 0 xs) ≡ take i (enumerate_from 0 xs) ++ (i, x) ∷ []
  numbered_more = take_item (enumerate_from 0 xs) i (i, x) numbered_within numbered_read

-- at the end all of them
pub numbered_all : {A : Type 0} (xs : List A) (n : ℕ) → length xs ≤ n → take n (enumerate_from 0 xs) ≡ enumerate_from 0 xs
numbered_all xs n le = take_all n (enumerate_from 0 xs) (omega (arith, le, length-enumerate_from 0 xs))
