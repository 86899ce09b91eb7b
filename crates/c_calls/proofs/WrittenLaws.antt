-- Items that are written one after another, and lists of them part by part.
use Rattle.std.proofs.Common.{◌≡◌, ◌<◌, ◌≤◌, ◌+◌, ◌++◌, ◌∷◌, ◌∙◌, [], ℕ, List, ap, append_assoc, arith, drop, get_or, length, length-append, map, refl, set, sym, take}
use Rattle.std.proofs.lemmas.List.{append-nil, map_more, map_push, take-append-drop, take_all, take_more, take_more_set, drop_more, length-take-le, set_at}
use Rattle.std.proofs.lemmas.List.Concat.{flat_map-append}
use Rattle.std.specs.List.{concat, flat_map}
use Rattle.std.specs.declared.alloc.Global.{Global}
use Rattle.std.specs.declared.vec.Vec.{Vec}
use Rattle.batch.specs.Lists.{lists_of}
use Rattle.c_calls.specs.Plan.{id_items}

-- one more item is written, from a place on
pub written_next : {A B : Type 0} (f : A → B) (start cells after : List B) (at i : ℕ) (values : List A) (d : A) (v : B) → i < length values → at + i < length cells
    → after ≡ set cells (at + i) v → v ≡ f (get_or values i d) → take (at + i) cells ≡ start ++ map f (take i values) → take (at + (i + 1)) after ≡ start ++ map f (take (i + 1) values)
written_next f start cells after at i values d v lt room set_is is so_far =
    let place : at + (i + 1) ≡ at + i + 1 = omega arith in
    (λ k. take (place k) (set_is k))
    ∙ (take_more_set cells (at + i) v room
    ∙ ((λ k. so_far k ++ is k ∷ [])
    ∙ (append_assoc start (map f (take i values)) (f (get_or values i d) ∷ [])
    ∙ ap (λ vs. start ++ vs) (sym (map_push f (take i values) (get_or values i d)) ∙ ap (map f) (sym (take_more values i d lt))))))

-- none is written yet
pub written_none : {B : Type 0} (cells : List B) (at : ℕ) → take (at + 0) cells ≡ take at cells ++ []
written_none cells at =
    let same : at + 0 ≡ at = omega arith in
    ap (λ n. take n cells) same ∙ sym (append-nil (take at cells))

-- one part more
flat_next : {X A : Type 0} (f : X → List A) (xs : List X) (i : ℕ) (d : X) → i < length xs → flat_map f (take (i + 1) xs) ≡ flat_map f (take i xs) ++ f (get_or xs i d)
flat_next f xs i d lt =
    ap (flat_map f) (take_more xs i d lt)
    ∙ (flat_map-append f (take i xs) (get_or xs i d ∷ []) ∙ ap (λ ys. flat_map f (take i xs) ++ ys) (append-nil (f (get_or xs i d))))

flat_within : {X A : Type 0} (f : X → List A) (xs : List X) (i : ℕ) → length (flat_map f (take i xs)) ≤ length (flat_map f xs)
flat_within f xs i =
    let parts : length (flat_map f xs) ≡ length (flat_map f (take i xs)) + length (flat_map f (drop i xs)) =
    ap (λ ys. length (flat_map f ys)) (sym (take-append-drop i xs)) ∙ (ap length (flat_map-append f (take i xs) (drop i xs)) ∙ length-append (flat_map f (take i xs)) (flat_map f (drop i xs))) in
    omega (arith, parts)

module _ {X A : Type 0} (f : X → List A) (xs : List X) (i : ℕ) (d x : X) (there : i < length xs) (is : x ≡ get_or xs i d) where
  -- the items of one part more
  pub parts_next : flat_map f (take (i + 1) xs) ≡ flat_map f (take i xs) ++ f x
  parts_next = flat_next f xs i d there ∙ ap (λ y. flat_map f (take i xs) ++ f y) (sym is)

  -- and how many they are
  pub count_next : length (flat_map f (take (i + 1) xs)) ≡ length (flat_map f (take i xs)) + length (f x)
  count_next = ap length parts_next ∙ length-append (flat_map f (take i xs)) (f x)

  -- there is room for them
  pub room_left : (at n room : ℕ) → n ≡ length (f x) → at ≡ length (flat_map f (take i xs)) → length (flat_map f xs) ≡ room → at + n ≤ room
  room_left at n room n_is at_is all = omega (arith, count_next, flat_within f xs (i + 1), n_is, at_is, all)

  -- they are written after those before
  pub part_written : (at n : ℕ) (before after : List A) → n ≡ length (f x) → at ≡ length (flat_map f (take i xs)) → take at before ≡ flat_map f (take i xs) → take (at + n) after ≡ take at before ++ f x
      → (at + n ≡ length (flat_map f (take (i + 1) xs))) × (take (at + n) after ≡ flat_map f (take (i + 1) xs))
  part_written at n before after n_is at_is so_far written = (
    omega (arith, count_next, n_is, at_is),
    written ∙ (ap (λ ys. ys ++ f x) so_far ∙ sym parts_next),
  )

-- all are written
pub all_written : {X A : Type 0} (f : X → List A) (xs : List X) (n at : ℕ) (items : List A) → length xs ≤ n → at ≡ length (flat_map f (take n xs)) → length (flat_map f xs) ≡ length items
    → take at items ≡ flat_map f (take n xs) → items ≡ flat_map f xs
all_written f xs n at items all at_is room written =
    let whole : take n xs ≡ xs = take_all n xs all in
    let full : length items ≤ at = omega (arith, at_is, ap (λ ys. length (flat_map f ys)) whole, room) in
    sym (take_all at items full) ∙ (written ∙ ap (flat_map f) whole)

-- one more item is written over those of an array
pub over_next : {A : Type 0} (values start before after : List A) (i : ℕ) (d v : A) → i < length values → i < length start → after ≡ set before i v → v ≡ get_or values i d → before ≡ take i values ++ drop i start
    → after ≡ take (i + 1) values ++ drop (i + 1) start
over_next values start before after i d v there room set_is is so_far =
    let long : length (take i values) ≡ i = length-take-le i values (omega (arith, there)) in
    set_is
    ∙ ((λ k. set ((so_far ∙ ap (λ ys. take i values ++ ys) (drop_more start i d room)) k) i v)
    ∙ (set_at (take i values) (get_or start i d) (drop (i + 1) start) v i long
    ∙ (sym (append_assoc (take i values) (v ∷ []) (drop (i + 1) start))
    ∙ (λ k. (ap (λ x. take i values ++ x ∷ []) is ∙ sym (take_more values i d there)) k ++ drop (i + 1) start))))

-- all are written
pub over_all : {A : Type 0} (values start after : List A) (i : ℕ) → i < length values + 1 → length values ≤ i → after ≡ take i values ++ drop i start → after ≡ values ++ drop (length values) start
over_all values start after i below all written =
    let full : i ≡ length values = omega (arith, below, all) in
    written ∙ (λ k. take_all i values all k ++ drop (full k) start)

-- as many are written as there is room for
pub all_over : {A B : Type 0} (f : A → B) (values : List A) (before after : List B) → take (0 + length values) after ≡ take 0 before ++ map f values → length values ≡ length before → length after ≡ length before → after ≡ map f values
all_over f values before after written many same = sym (take_all (0 + length values) after (omega (arith, many, same))) ∙ written

-- one more item is appended, of the next item of a list
pub map_next : {A B : Type 0} (f : A → B) (xs : List A) (i : ℕ) (d : A) (before after : List B) (y : B) → i < length xs → after ≡ before ++ y ∷ [] → y ≡ f (get_or xs i d) → before ≡ map f (take i xs) → after ≡ map f (take (i + 1) xs)
map_next f xs i d before after y there pushed is so_far = pushed ∙ ((λ k. so_far k ++ is k ∷ []) ∙ sym (map_more f xs i d there))

-- the ids of a plan, list after list
pub all_ids_are : (ids : List (Vec ℕ Global)) → concat (lists_of ids) ≡ flat_map id_items ids
all_ids_are [] = refl
all_ids_are (list ∷ rest) = ap (λ more. list.items ++ more) (all_ids_are rest)

-- items that are appended, and then others
pub appended_twice : {A : Type 0} (old xs ys between after : List A) → between ≡ old ++ xs → after ≡ between ++ ys → after ≡ old ++ (xs ++ ys)
appended_twice old xs ys between after first second = second ∙ (ap (λ zs. zs ++ ys) first ∙ append_assoc old xs ys)

-- the items of one part more are appended
pub part_appended : {X A : Type 0} (f : X → List A) (xs : List X) (i : ℕ) (x : X) → i < length xs → x ≡ get_or xs i x → (old before after : List A) → before ≡ old ++ flat_map f (take i xs) → after ≡ before ++ f x → after ≡ old ++ flat_map f (take (i + 1) xs)
part_appended f xs i x there is old before after so_far appended =
    appended_twice old (flat_map f (take i xs)) (f x) before after so_far appended
    ∙ ap (λ ys. old ++ ys) (sym (flat_next f xs i x there ∙ ap (λ y. flat_map f (take i xs) ++ f y) (sym is)))

-- those of all parts
pub all_appended : {X A : Type 0} (f : X → List A) (xs : List X) (i : ℕ) → length xs ≤ i → (old after : List A) → after ≡ old ++ flat_map f (take i xs) → after ≡ old ++ flat_map f xs
all_appended f xs i all old after so_far = so_far ∙ ap (λ ys. old ++ flat_map f ys) (take_all i xs all)
