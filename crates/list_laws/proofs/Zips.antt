-- Two lists side by side: their pairs, and relations of them item by item.
use Rattle.std.proofs.Common.{◌≡◌, ℕ, zero, suc, ◌+◌, ◌<◌, ◌≤◌, ◌⊎◌, inl, inr, Bool, true, false, cond, Some, List, [], ◌∷◌, ◌++◌, All, length, map, take, get_or, refl, sym, ap, subst, subst₂, ◌∙◌, arith}
use Rattle.std.proofs.lemmas.Bool.{cases_lt}
use Rattle.std.proofs.lemmas.List.{get_or-map, length-map, take_all, take_more}
use Rattle.std.proofs.lemmas.List.Elements.{All-cons, All-nil}
use Rattle.std.proofs.lemmas.Slice.Zip.{AllZip-long, all_zipped_more, get_or-zip, length-zip}
use Rattle.std.specs.List.{AllByRecursion, AllZip, filter, flat_map, range_with_len, slice_get, zip}
use Rattle.list_laws.proofs.Items.{take_item}

module _ {A B : Type 0} where
  -- pairs of lists that are put together
  pub zip-append : (xs ys : List A) (us vs : List B) → length us ≡ length xs → zip (xs ++ ys) (us ++ vs) ≡ zip xs us ++ zip ys vs
  zip-append [] ys [] vs e = refl
  zip-append [] ys (u ∷ us) vs e = absurd (omega (arith, e))
  zip-append (x ∷ xs) ys [] vs e = absurd (omega (arith, e))
  zip-append (x ∷ xs) ys (u ∷ us) vs e = ap (λ t. (x, u) ∷ t) (zip-append xs ys us vs (omega (arith, e)))

  pub zip_push : (xs : List A) (ys : List B) (x : A) (y : B) → length xs ≡ length ys → zip (xs ++ x ∷ []) (ys ++ y ∷ []) ≡ zip xs ys ++ (x, y) ∷ []
  zip_push xs ys x y same = zip-append xs (x ∷ []) ys (y ∷ []) (sym same)

  -- as many pairs as items
  pub length_zip : (xs : List A) (ys : List B) → length ys ≡ length xs → length (zip xs ys) ≡ length xs
  length_zip [] ys e = refl
  length_zip (x ∷ xs) [] e = absurd (omega (arith, e))
  length_zip (x ∷ xs) (y ∷ ys) e = ap suc (length_zip xs ys (omega (arith, e)))

  -- the second items of pairs
  pub seconds : (xs : List A) (ys : List B) → length xs ≡ length ys → map (λ p. p.1) (zip xs ys) ≡ ys
  seconds [] [] same = refl
  seconds [] (y ∷ ys) same = absurd (omega (arith, same))
  seconds (x ∷ xs) [] same = absurd (omega (arith, same))
  seconds (x ∷ xs) (y ∷ ys) same = ap (λ t. y ∷ t) (seconds xs ys (omega (arith, same)))

  -- the pair at an index
  pub pair_at : (xs : List A) (ys : List B) (i : ℕ) (x : A) (y : B) → i < length xs → i < length ys → x ≡ get_or xs i x → y ≡ get_or ys i y → slice_get (zip xs ys) i ≡ Some (x, y)
  pair_at [] ys i x y lt below x_is y_is = absurd (omega (arith, lt))
  pair_at (a ∷ xs) [] i x y lt below x_is y_is = absurd (omega (arith, below))
  pair_at (a ∷ xs) (b ∷ ys) zero x y lt below x_is y_is = λ j. Some (sym x_is j, sym y_is j)
  pair_at (a ∷ xs) (b ∷ ys) (suc i) x y lt below x_is y_is = pair_at xs ys i x y (omega (arith, lt)) (omega (arith, below)) x_is y_is

  pub zip_at : (xs : List A) (ys : List B) (i : ℕ) (x : A) (y : B) → length xs ≡ length ys → i < length xs → x ≡ get_or xs i x → y ≡ get_or ys i y → (x, y) ≡ get_or (zip xs ys) i (x, y)
  zip_at xs ys i x y same lt x_is y_is = (λ k. (x_is k, y_is k)) ∙ sym (get_or-zip xs ys i (x, y) lt (omega (arith, same, lt)))

-- a function of the pairs of two maps of one list
pub zip_of_maps : {T A B C : Type 0} (h : A → B → C) (f : T → A) (g : T → B) (ts : List T) → map (λ p. h p.0 p.1) (zip (map f ts) (map g ts)) ≡ map (λ t. h (f t) (g t)) ts
zip_of_maps h f g [] = refl
zip_of_maps h f g (t ∷ ts) = ap (λ r. h (f t) (g t) ∷ r) (zip_of_maps h f g ts)

-- pairs of images with other items
pub zip-map_left : {A B C : Type 0} (f : A → B) (xs : List A) (ys : List C) → zip (map f xs) ys ≡ map (λ p. (f p.0, p.1)) (zip xs ys)
zip-map_left f [] ys = refl
zip-map_left f (x ∷ xs) [] = refl
zip-map_left f (x ∷ xs) (y ∷ ys) = ap (λ t. (f x, y) ∷ t) (zip-map_left f xs ys)

-- pairs with a map of the first items
pub zip_mapped : {A B C D : Type 0} (f : A → B) (g : B → C → D) (xs : List A) (ys : List C) → map (λ b. g (f b.0) b.1) (zip xs ys) ≡ map (λ b. g b.0 b.1) (zip (map f xs) ys)
zip_mapped f g [] ys = refl
zip_mapped f g (x ∷ xs) [] = refl
zip_mapped f g (x ∷ xs) (y ∷ ys) = ap (λ t. g (f x) y ∷ t) (zip_mapped f g xs ys)

module _ {A B C : Type 0} (f : A × B → C) (xs : List A) (ys : List B) (same : length ys ≡ length xs) where
  -- mapping f over the pairs of two lists of the same length keeps that length
  pub length-zipped : length (map f (zip xs ys)) ≡ length xs
  length-zipped = length-map (zip xs ys) f ∙ length-zip xs ys ∙ omega (arith, same)

  -- the value of f for the pair at an index
  pub zipped_at : (i : ℕ) (x : A) (y : B) → i < length xs → x ≡ get_or xs i x → y ≡ get_or ys i y → f (x, y) ≡ get_or (map f (zip xs ys)) i (f (x, y))
  zipped_at i x y lt x_is y_is =
      sym (get_or-map f (zip xs ys) i (x, y) (f (x, y)) (omega (arith, length-zip xs ys, same)) ∙ ap f (get_or-zip xs ys i (x, y) lt (omega (arith, same)) ∙ (λ k. (sym x_is k, sym y_is k))))

  -- one more pair
  pub zipped_more : (i : ℕ) (x : A) (y : B) → i < length xs → x ≡ get_or xs i x → y ≡ get_or ys i y → take (i + 1) (map f (zip xs ys)) ≡ take i (map f (zip xs ys)) ++ f (x, y) ∷ []
  zipped_more i x y lt x_is y_is =
      take_more (map f (zip xs ys)) i (f (x, y)) (omega (arith, length-zipped)) ∙ ap (λ t. take i (map f (zip xs ys)) ++ t ∷ []) (sym (zipped_at i x y lt x_is y_is))

module _ {A B : Type 0} (R : A → B → Type 0) where
  -- Two lists that are related item by item. The first pair of them:
  pub AllZip-next : (xs : List A) (y : B) (ys : List B) → AllZip R xs (y ∷ ys) → (x : A) × (later : List A) × (xs ≡ x ∷ later) × R x y × AllZip R later ys
  AllZip-next [] y ys h = absurd h
  AllZip-next (x ∷ xs) y ys h = (x, xs, refl, h.0, h.1)

  -- there is none
  pub AllZip-none : (xs : List A) (ys : List B) → ys ≡ [] → AllZip R xs ys → xs ≡ []
  AllZip-none [] ys none h = refl
  AllZip-none (x ∷ xs) [] none h = absurd h
  AllZip-none (x ∷ xs) (y ∷ ys) none h = absurd (cc none)

  -- lists that are put together
  pub AllZip-append : (xs : List A) (us : List B) (ys : List A) (vs : List B) → AllZip R xs us → AllZip R ys vs → AllZip R (xs ++ ys) (us ++ vs)
  AllZip-append [] [] ys vs first second = second
  AllZip-append [] (u ∷ us) ys vs first second = absurd first
  AllZip-append (x ∷ xs) [] ys vs first second = absurd first
  AllZip-append (x ∷ xs) (u ∷ us) ys vs first second = (first.0, AllZip-append xs us ys vs first.1 second)

  -- the two parts of a list that goes with two lists together
  pub AllZip-parts : (xs ys : List A) (zs : List B) → AllZip R (xs ++ ys) zs → (us : List B) × (vs : List B) × (us ++ vs ≡ zs) × AllZip R xs us × AllZip R ys vs
  AllZip-parts [] ys zs all = ([], zs, refl, tt, all)
  AllZip-parts (x ∷ xs) ys [] all = absurd all
  AllZip-parts (x ∷ xs) ys (z ∷ zs) all =
      let (us, vs, are, first, second) = AllZip-parts xs ys zs all.1 in
      (z ∷ us, vs, ap (λ t. z ∷ t) are, (all.0, first), second)

  -- one more item beside the next one of a list
  pub AllZip-more : (xs : List A) (ys zs : List B) (i : ℕ) (d x : A) (y : B) → i < length xs → x ≡ get_or xs i d → zs ≡ ys ++ y ∷ [] → R x y → AllZip R (take i xs) ys → AllZip R (take (i + 1) xs) zs
  AllZip-more xs ys zs i d x y lt is pushed here so_far =
      subst₂ (AllZip R) (sym (take_more xs i d lt ∙ ap (λ z. take i xs ++ z ∷ []) (sym is))) (sym pushed) (all_zipped_more R (take i xs) ys x y so_far here)

  -- one more item of a list beside the next one
  pub AllZip-more_right : (xs zs : List A) (ys : List B) (i : ℕ) (x : A) (y : B) → i < length ys → y ≡ get_or ys i y → zs ≡ xs ++ x ∷ [] → R x y → AllZip R xs (take i ys) → AllZip R zs (take (i + 1) ys)
  AllZip-more_right xs zs ys i x y lt is pushed here so_far =
      subst₂ (AllZip R) (sym pushed) (sym (take_item ys i y lt is)) (all_zipped_more R xs (take i ys) x y so_far here)

  -- at the end all of them
  pub AllZip-all_right : (xs : List A) (ys : List B) (n : ℕ) → length ys ≤ n → AllZip R xs (take n ys) → AllZip R xs ys
  AllZip-all_right xs ys n le all = subst (AllZip R xs) (take_all n ys le) all

  -- the item that goes with the one at an index
  pub AllZip-at : (xs : List A) (ys : List B) (i : ℕ) (x : A) (d : B) → i < length xs → x ≡ get_or xs i x → AllZip R xs ys → R x (get_or ys i d)
  AllZip-at [] ys i x d lt is all = absurd (omega (arith, lt))
  AllZip-at (a ∷ xs) [] i x d lt is all = absurd all
  AllZip-at (a ∷ xs) (b ∷ ys) zero x d lt is all = subst (λ (t : A). R t b) (sym is) all.0
  AllZip-at (a ∷ xs) (b ∷ ys) (suc i) x d lt is all = AllZip-at xs ys i x d (omega (arith, lt)) is all.1

  -- two items at one index are related
  pub AllZip-both_at : (xs : List A) (ys : List B) (i : ℕ) (x : A) (y : B) → AllZip R xs ys → i < length ys → x ≡ get_or xs i x → y ≡ get_or ys i y → R x y
  AllZip-both_at xs ys i x y all lt x_is y_is = subst (R x) (sym y_is) (AllZip-at xs ys i x y (omega (arith, lt, AllZip-long R xs ys all)) x_is all)

  pub AllZip-there : (xs : List A) (ys : List B) (i : ℕ) (x : A) (y : B) → AllZip R xs ys → slice_get xs i ≡ Some x → slice_get ys i ≡ Some y → R x y
  AllZip-there [] ys i x y all x_there y_there = absurd (cc x_there)
  AllZip-there (a ∷ xs) [] i x y all x_there y_there = absurd all
  AllZip-there (a ∷ xs) (b ∷ ys) zero x y all x_there y_there =
      let x_is : a ≡ x = cc x_there in
      let y_is : b ≡ y = cc y_there in
      subst₂ R x_is y_is all.0
  AllZip-there (a ∷ xs) (b ∷ ys) (suc i) x y all x_there y_there = AllZip-there xs ys i x y all.1 x_there y_there

  -- each item of a list goes with one of the other
  pub AllZip-paired : (xs : List A) (ys : List B) → AllZip R xs ys → All (λ x. (y : B) × R x y) xs
  AllZip-paired [] [] are = All-nil (λ x. (y : B) × R x y)
  AllZip-paired [] (y ∷ ys) are = absurd are
  AllZip-paired (x ∷ xs) [] are = absurd are
  AllZip-paired (x ∷ xs) (y ∷ ys) are = All-cons (λ z. (w : B) × R z w) x xs (y, are.0) (AllZip-paired xs ys are.1)

  -- a relation that follows from it
  pub AllZip-weaker : (S : A → B → Type 0) → ((x : A) (y : B) → R x y → S x y) → (xs : List A) (ys : List B) → AllZip R xs ys → AllZip S xs ys
  AllZip-weaker S weaker [] [] h = tt
  AllZip-weaker S weaker [] (y ∷ ys) h = absurd h
  AllZip-weaker S weaker (x ∷ xs) [] h = absurd h
  AllZip-weaker S weaker (x ∷ xs) (y ∷ ys) h = (weaker x y h.0, AllZip-weaker S weaker xs ys h.1)

  -- what follows of each item from a fact of the one beside it
  pub AllZip-each : (P : A → Type 0) (Q : B → Type 0) → ((x : A) (y : B) → R x y → Q y → P x) → (xs : List A) (ys : List B) → AllZip R xs ys → AllByRecursion Q ys → AllByRecursion P xs
  AllZip-each P Q each [] [] h all = tt
  AllZip-each P Q each [] (y ∷ ys) h all = absurd h
  AllZip-each P Q each (x ∷ xs) [] h all = absurd h
  AllZip-each P Q each (x ∷ xs) (y ∷ ys) h all = (each x y h.0 all.0, AllZip-each P Q each xs ys h.1 all.1)

  -- what follows of the second item of each pair
  pub AllZip-right : (Q : B → Type 0) → ((x : A) (y : B) → R x y → Q y) → (xs : List A) (ys : List B) → AllZip R xs ys → AllByRecursion Q ys
  AllZip-right Q each [] [] h = tt
  AllZip-right Q each [] (y ∷ ys) h = absurd h
  AllZip-right Q each (x ∷ xs) [] h = absurd h
  AllZip-right Q each (x ∷ xs) (y ∷ ys) h = (each x y h.0, AllZip-right Q each xs ys h.1)

  -- functions with the same value at related items give the same list, and the same parts
  pub AllZip-same_map : {C : Type 0} (f : A → C) (g : B → C) → ((x : A) (y : B) → R x y → f x ≡ g y) → (xs : List A) (ys : List B) → AllZip R xs ys → map f xs ≡ map g ys
  AllZip-same_map f g same [] [] h = refl
  AllZip-same_map f g same [] (y ∷ ys) h = absurd h
  AllZip-same_map f g same (x ∷ xs) [] h = absurd h
  AllZip-same_map f g same (x ∷ xs) (y ∷ ys) h = λ i. same x y h.0 i ∷ AllZip-same_map f g same xs ys h.1 i

  pub AllZip-same_parts : {C : Type 0} (f : A → List C) (g : B → List C) → ((x : A) (y : B) → R x y → f x ≡ g y) → (xs : List A) (ys : List B) → AllZip R xs ys → flat_map f xs ≡ flat_map g ys
  AllZip-same_parts f g same [] [] h = refl
  AllZip-same_parts f g same [] (y ∷ ys) h = absurd h
  AllZip-same_parts f g same (x ∷ xs) [] h = absurd h
  AllZip-same_parts f g same (x ∷ xs) (y ∷ ys) h = λ i. same x y h.0 i ++ AllZip-same_parts f g same xs ys h.1 i

  -- the items that pass tests which agree
  pub AllZip-filter : (p : A → Bool) (q : B → Bool) → ((x : A) (y : B) → R x y → p x ≡ q y) → (xs : List A) (ys : List B) → AllZip R xs ys → AllZip R (filter p xs) (filter q ys)
  AllZip-filter p q agree [] [] h = tt
  AllZip-filter p q agree [] (y ∷ ys) h = absurd h
  AllZip-filter p q agree (x ∷ xs) [] h = absurd h
  AllZip-filter p q agree (x ∷ xs) (y ∷ ys) h = by_tests (p x) (q y) (agree x y h.0) (AllZip-filter p q agree xs ys h.1)
    where
      by_tests : (b d : Bool) → b ≡ d → AllZip R (filter p xs) (filter q ys) → AllZip R (cond b (x ∷ filter p xs) (filter p xs)) (cond d (y ∷ filter q ys) (filter q ys))
      by_tests true true e rest = (h.0, rest)
      by_tests true false e rest = absurd (cc e)
      by_tests false true e rest = absurd (cc e)
      by_tests false false e rest = rest

  -- beside the items of one more list
  pub AllZip-zip : {T : Type 0} (ts : List T) (xs : List A) (ys : List B) → AllZip R xs ys → AllZip (λ p q. (p.0 ≡ q.0) × R p.1 q.1) (zip ts xs) (zip ts ys)
  AllZip-zip [] xs ys h = tt
  AllZip-zip (t ∷ ts) [] [] h = tt
  AllZip-zip (t ∷ ts) [] (y ∷ ys) h = absurd h
  AllZip-zip (t ∷ ts) (x ∷ xs) [] h = absurd h
  AllZip-zip (t ∷ ts) (x ∷ xs) (y ∷ ys) h = ((refl, h.0), AllZip-zip ts xs ys h.1)

module _ {A B : Type 0} (R : A → B → Type 0) where
  -- a relation of images
  pub AllZip-map : {C D : Type 0} (f : C → A) (g : D → B) (cs : List C) (ds : List D) → AllZip R (map f cs) (map g ds) → AllZip (λ c d. R (f c) (g d)) cs ds
  AllZip-map f g [] [] h = tt
  AllZip-map f g [] (d ∷ ds) h = absurd h
  AllZip-map f g (c ∷ cs) [] h = absurd h
  AllZip-map f g (c ∷ cs) (d ∷ ds) h = (h.0, AllZip-map f g cs ds h.1)

  pub AllZip-map_left : {C : Type 0} (f : C → A) (cs : List C) (ys : List B) → AllZip R (map f cs) ys → AllZip (λ c y. R (f c) y) cs ys
  AllZip-map_left f [] [] h = tt
  AllZip-map_left f [] (y ∷ ys) h = absurd h
  AllZip-map_left f (c ∷ cs) [] h = absurd h
  AllZip-map_left f (c ∷ cs) (y ∷ ys) h = (h.0, AllZip-map_left f cs ys h.1)

  pub AllZip-images : {C D : Type 0} (f : C → A) (g : D → B) (cs : List C) (ds : List D) → AllZip (λ c d. R (f c) (g d)) cs ds → AllZip R (map f cs) (map g ds)
  AllZip-images f g [] [] h = tt
  AllZip-images f g [] (d ∷ ds) h = absurd h
  AllZip-images f g (c ∷ cs) [] h = absurd h
  AllZip-images f g (c ∷ cs) (d ∷ ds) h = (h.0, AllZip-images f g cs ds h.1)

  -- images of one list
  pub AllZip-of_one : {C : Type 0} (f : C → A) (g : C → B) (cs : List C) → AllByRecursion (λ c. R (f c) (g c)) cs → AllZip R (map f cs) (map g cs)
  AllZip-of_one f g [] all = tt
  AllZip-of_one f g (c ∷ cs) all = (all.0, AllZip-of_one f g cs all.1)

  -- parts that are put together
  pub AllZip-flat : {C D : Type 0} (f : C → List A) (g : D → List B) (cs : List C) (ds : List D) → AllZip (λ c d. AllZip R (f c) (g d)) cs ds → AllZip R (flat_map f cs) (flat_map g ds)
  AllZip-flat f g [] [] h = tt
  AllZip-flat f g [] (d ∷ ds) h = absurd h
  AllZip-flat f g (c ∷ cs) [] h = absurd h
  AllZip-flat f g (c ∷ cs) (d ∷ ds) h = AllZip-append R (f c) (g d) (flat_map f cs) (flat_map g ds) h.0 (AllZip-flat f g cs ds h.1)

  pub AllZip-flat_of_one : {C : Type 0} (f : C → List A) (g : C → List B) (cs : List C) → AllByRecursion (λ c. AllZip R (f c) (g c)) cs → AllZip R (flat_map f cs) (flat_map g cs)
  AllZip-flat_of_one f g [] all = tt
  AllZip-flat_of_one f g (c ∷ cs) all = AllZip-append R (f c) (g c) (flat_map f cs) (flat_map g cs) all.0 (AllZip-flat_of_one f g cs all.1)

  -- the parts of a list that goes with parts put together
  pub AllZip-rows : (f : ℕ → List A) (a m : ℕ) (zs : List B) → AllZip R (flat_map f (range_with_len a m)) zs → (rows : List (List B)) × AllZip (λ r row. AllZip R (f r) row) (range_with_len a m) rows × (flat_map (λ row. row) rows ≡ zs)
  AllZip-rows f a zero [] all = ([], tt, refl)
  AllZip-rows f a zero (z ∷ zs) all = absurd all
  AllZip-rows f a (suc m) zs all =
      let (us, vs, are, first, second) = AllZip-parts R (f a) (flat_map f (range_with_len (a + 1) m)) zs all in
      let (rows, each, joined) = AllZip-rows f (a + 1) m vs second in
      (us ∷ rows, (first, each), ap (λ t. us ++ t) joined ∙ are)

-- the item that goes with index k of a range
pub AllZip-ranged : {B : Type 0} (Q : ℕ → B → Type 0) (a m k : ℕ) (rows : List B) (d : B) → k < m → AllZip Q (range_with_len a m) rows → Q (a + k) (get_or rows k d)
AllZip-ranged Q a zero k rows d lt all = absurd (omega (arith, lt))
AllZip-ranged Q a (suc m) k [] d lt all = absurd all
AllZip-ranged Q a (suc m) zero (row ∷ rows) d lt all = subst (λ (n : ℕ). Q n row) (omega arith) all.0
AllZip-ranged Q a (suc m) (suc k) (row ∷ rows) d lt all =
    subst (λ (n : ℕ). Q n (get_or rows k d)) (omega arith) (AllZip-ranged Q (a + 1) m k rows d (omega (arith, lt)) all.1)

module _ {A B : Type 0} (P : A → B → Type 0) (xs : List A) (ys : List B) where
  -- what holds of the items at each of the first n indices
  abbrev pub BothHoldBelow : ℕ → Type 0
  BothHoldBelow n = (k : ℕ) (x : A) (y : B) → k < n → slice_get xs k ≡ Some x → slice_get ys k ≡ Some y → P x y

  -- one index more
  pub both_hold_next : (i : ℕ) (x : A) (y : B) → slice_get xs i ≡ Some x → slice_get ys i ≡ Some y → P x y → BothHoldBelow i → BothHoldBelow (i + 1)
  both_hold_next i x y x_there y_there here so_far k z w lt z_there w_there = by_index (cases_lt k i)
    where
      by_index : (k < i) ⊎ (i ≤ k) → P z w
      by_index (inl earlier) = so_far k z w earlier z_there w_there
      by_index (inr late) =
          let at : k ≡ i = omega (arith, late, lt) in
          let z_is : slice_get xs i ≡ Some z = subst (λ (n : ℕ). slice_get xs n ≡ Some z) at z_there in
          let w_is : slice_get ys i ≡ Some w = subst (λ (n : ℕ). slice_get ys n ≡ Some w) at w_there in
          let x_is : x ≡ z = cc (sym x_there ∙ z_is) in
          let y_is : y ≡ w = cc (sym y_there ∙ w_is) in
          subst₂ P x_is y_is here

-- what holds at each index of two lists of one length holds of them
pub AllZip-held : {A B : Type 0} (P : A → B → Type 0) (xs : List A) (ys : List B) → length xs ≡ length ys → BothHoldBelow P xs ys (length xs) → AllZip P xs ys
AllZip-held P [] [] same each = tt
AllZip-held P [] (y ∷ ys) same each = absurd (omega (arith, same))
AllZip-held P (x ∷ xs) [] same each = absurd (omega (arith, same))
AllZip-held P (x ∷ xs) (y ∷ ys) same each =
    (each 0 x y (omega arith) refl refl, AllZip-held P xs ys (omega (arith, same)) (λ k z w lt. each (suc k) z w (omega (arith, lt))))
