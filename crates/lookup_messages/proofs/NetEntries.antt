-- The entries of a map of nets, item by item.
use Rattle.std.proofs.Common.{length-append, ◌≡◌, ℕ, ◌+◌, ◌<◌, length, take, get_or, Bool, true, false, cond, not, ◌||◌, List, [], ◌∷◌, ◌++◌, map, None, Some, unwrap_or, refl, sym, ap, subst, ◌∙◌, true≢false, Decides}
use Rattle.std.proofs.lemmas.List.{append-nil, length-map, map-append}
use Rattle.std.proofs.lemmas.List.Elements.{filter-append}
use Rattle.std.specs.List.{filter, list_any, AllByRecursion}
use Rattle.std.specs.Map.{lookup}
use Rattle.list_laws.proofs.Each.{all_of_map, all_weaker, none_any}
use Rattle.list_laws.proofs.Images.{filter_images, filter_none, map-map}
use Rattle.list_laws.proofs.Items.{take_item}
use Rattle.indexmap.specs.IndexMap.{insert_entry}
use Rattle.field.specs.Ring.{Ring, IsCommutativeRing}
use Rattle.field.specs.Sums.{sum_in}
use Rattle.lookup_model.specs.Net.{first_seen}
use Rattle.lookup_model.proofs.SumLaws.{sum_in-push}
use Rattle.lookup_model.proofs.Lookups.Regrouping.{IsSeparate, first_seen_separate}
use Rattle.lookup_messages.proofs.FirstSeen.{first_seen-push}

module _ {A : Type 0} (same : A → A → Bool) (decides : (a b : A) → Decides (same a b) (a ≡ b)) where
  -- the test is symmetric
  pub turned : (a b : A) → same a b ≡ same b a
  turned a b = by_test (same a b) refl (same b a) refl
    where
      by_test : (p : Bool) → same a b ≡ p → (q : Bool) → same b a ≡ q → same a b ≡ same b a
      by_test true e true f = e ∙ sym f
      by_test true e false f = absurd (true≢false (sym ((decides b a).1 (sym ((decides a b).0 e))) ∙ f))
      by_test false e true f = absurd (true≢false (sym ((decides a b).1 (sym ((decides b a).0 f))) ∙ e))
      by_test false e false f = e ∙ sym f

  -- among the items without those that are the same as y, x is as before where it is not the same as y
  any-kept : (y x : A) → same y x ≡ false → (zs : List A) → list_any (λ z. same z x) (filter (λ z. not (same y z)) zs) ≡ list_any (λ z. same z x) zs
  any-kept y x e [] = refl
  any-kept y x e (z ∷ zs) = by_test (same y z) refl (any-kept y x e zs)
    where
      kept : List A
      kept = filter (λ w. not (same y w)) zs

      by_test : (p : Bool) → same y z ≡ p → list_any (λ w. same w x) kept ≡ list_any (λ w. same w x) zs
          → list_any (λ w. same w x) (cond (not p) (z ∷ kept) kept) ≡ (same z x || list_any (λ w. same w x) zs)
      by_test true f rest = rest ∙ ap (λ b. b || list_any (λ w. same w x) zs) (sym e ∙ ap (λ w. same w x) ((decides y z).0 f))
      by_test false f rest = ap (λ b. same z x || b) rest

  -- an item is among those that are first seen where it is among all
  pub any-first_seen : (xs : List A) (x : A) → list_any (λ y. same y x) (first_seen same xs) ≡ list_any (λ y. same y x) xs
  any-first_seen [] x = refl
  any-first_seen (y ∷ ys) x = by_test (same y x) refl (any-first_seen ys x)
    where
      by_test : (p : Bool) → same y x ≡ p → list_any (λ z. same z x) (first_seen same ys) ≡ list_any (λ z. same z x) ys
          → (p || list_any (λ z. same z x) (filter (λ z. not (same y z)) (first_seen same ys))) ≡ (p || list_any (λ z. same z x) ys)
      by_test true e rest = refl
      by_test false e rest = any-kept y x e (first_seen same ys) ∙ rest

  module _ {V : Type 0} where
    -- what a list of keys, each with its value, has at a key
    pub lookup-valued : (f : A → V) (k : A) (ks : List A) → lookup (same k) (map (λ a. (a, f a)) ks) ≡ cond (list_any (λ y. same y k) ks) (Some (f k)) None
    lookup-valued f k [] = refl
    lookup-valued f k (y ∷ ys) = by_test (same y k) refl (lookup-valued f k ys)
      where
        by_test : (p : Bool) → same y k ≡ p → lookup (same k) (map (λ a. (a, f a)) ys) ≡ cond (list_any (λ z. same z k) ys) (Some (f k)) None
            → cond (same k y) (Some (f y)) (lookup (same k) (map (λ a. (a, f a)) ys)) ≡ cond (p || list_any (λ z. same z k) ys) (Some (f k)) None
        by_test true e rest = ap (λ b. cond b (Some (f y)) (lookup (same k) (map (λ a. (a, f a)) ys))) (turned k y ∙ e) ∙ ap (λ a. Some (f a)) ((decides y k).0 e)
        by_test false e rest = ap (λ b. cond b (Some (f y)) (lookup (same k) (map (λ a. (a, f a)) ys))) (turned k y ∙ e) ∙ rest

    -- values that agree at all keys but k agree at keys apart from k
    pub agree : (f g : A → V) (k : A) → ((a : A) → same k a ≡ false → f a ≡ g a) → (ks : List A) → AllByRecursion (λ y. same k y ≡ false) ks → map {B = A × V} (λ a. (a, f a)) ks ≡ map (λ a. (a, g a)) ks
    agree f g k others [] h = refl
    agree f g k others (y ∷ ys) h = λ i. (y, others y h.0 i) ∷ agree f g k others ys h.1 i

    -- inserting a key with its new value gives the new values of all keys
    pub insert-valued : (f g : A → V) (k : A) → ((a : A) → same k a ≡ false → f a ≡ g a) → (ks : List A) → IsSeparate same ks
        → insert_entry same (map (λ a. (a, f a)) ks) k (g k) ≡ map (λ a. (a, g a)) (cond (list_any (λ y. same y k) ks) ks (ks ++ k ∷ []))
    insert-valued f g k others [] h = refl
    insert-valued f g k others (y ∷ ys) h = by_test (same y k) refl (list_any (λ z. same z k) ys) (insert-valued f g k others ys h.1)
      where
        es : List (A × V)
        es = map (λ a. (a, f a)) ys

        by_test : (p : Bool) → same y k ≡ p → (q : Bool) → insert_entry same es k (g k) ≡ map (λ a. (a, g a)) (cond q ys (ys ++ k ∷ []))
            → cond (same k y) ((y, g k) ∷ es) ((y, f y) ∷ insert_entry same es k (g k)) ≡ map (λ a. (a, g a)) (cond (p || q) (y ∷ ys) (y ∷ ys ++ k ∷ []))
        by_test true e q rest =
            let is : y ≡ k = (decides y k).0 e in
            ap (λ b. cond b ((y, g k) ∷ es) ((y, f y) ∷ insert_entry same es k (g k))) (turned k y ∙ e)
            ∙ (λ i. (y, g (sym is i)) ∷ agree f g k others ys (subst (λ a. AllByRecursion (λ z. same a z ≡ false) ys) is h.0) i)
        by_test false e true rest =
            ap (λ b. cond b ((y, g k) ∷ es) ((y, f y) ∷ insert_entry same es k (g k))) (turned k y ∙ e)
            ∙ (λ i. (y, others y (turned k y ∙ e) i) ∷ rest i)
        by_test false e false rest =
            ap (λ b. cond b ((y, g k) ∷ es) ((y, f y) ∷ insert_entry same es k (g k))) (turned k y ∙ e)
            ∙ (λ i. (y, others y (turned k y ∙ e) i) ∷ rest i)

  module _ {F X : Type 0} {R : Ring F} (laws : IsCommutativeRing R) (key : X → A) (amount : X → F) where
    -- how much of a key the items send in all
    abbrev pub net_in : List X → A → F
    net_in xs a = sum_in R (map amount (filter (λ x. same a (key x)) xs))

    -- each key with its net, in the order in which the keys are first seen
    abbrev pub entries_in : List X → List (A × F)
    entries_in xs = map (λ a. (a, net_in xs a)) (first_seen same (map key xs))

    -- one more item adds to its key
    net-push : (xs : List X) (x : X) (a : A) → net_in (xs ++ x ∷ []) a ≡ cond (same a (key x)) (R.add (net_in xs a) (amount x)) (net_in xs a)
    net-push xs x a =
        let mine = λ (y : X). same a (key y) in
        ap (λ t. sum_in R (map amount t)) (filter-append mine xs (x ∷ [])) ∙ by_test (same a (key x))
      where
        before : List X
        before = filter (λ y. same a (key y)) xs

        by_test : (p : Bool) → sum_in R (map amount (before ++ cond p (x ∷ []) [])) ≡ cond p (R.add (sum_in R (map amount before)) (amount x)) (sum_in R (map amount before))
        by_test true = ap (sum_in R) (map-append amount before (x ∷ [])) ∙ sum_in-push laws (map amount before) (amount x)
        by_test false = ap (λ t. sum_in R (map amount t)) (append-nil before)

    -- where no item has the key nothing is sent
    pub net-none : (xs : List X) (k : A) → list_any (λ y. same y k) (map key xs) ≡ false → net_in xs k ≡ R.zero
    net-none xs k none =
        let apart = all_weaker (λ x. same (key x) k ≡ false) (λ x. same k (key x) ≡ false) (λ x e. turned k (key x) ∙ e) xs (all_of_map (λ y. same y k ≡ false) key xs (none_any (λ y. same y k) (map key xs) none)) in
        ap (λ t. sum_in R (map amount t)) (filter_none (λ x. same k (key x)) xs apart)

    -- what the entries have at a key, or zero, is its net
    pub net-lookup : (xs : List X) (k : A) → unwrap_or (lookup (same k) (entries_in xs)) R.zero ≡ net_in xs k
    net-lookup xs k =
        ap (λ o. unwrap_or o R.zero) (lookup-valued (net_in xs) k (first_seen same (map key xs)) ∙ ap (λ b. cond b (Some (net_in xs k)) None) (any-first_seen (map key xs) k))
        ∙ by_test (list_any (λ y. same y k) (map key xs)) refl
      where
        by_test : (p : Bool) → list_any (λ y. same y k) (map key xs) ≡ p → unwrap_or (cond p (Some (net_in xs k)) None) R.zero ≡ net_in xs k
        by_test true e = refl
        by_test false e = sym (net-none xs k e)

    -- the entries after one more item
    pub entries-push : (xs : List X) (x : X) → insert_entry same (entries_in xs) (key x) (R.add (net_in xs (key x)) (amount x)) ≡ entries_in (xs ++ x ∷ [])
    entries-push xs x =
        let k = key x in
        let ks = map key xs in
        let g = net_in (xs ++ x ∷ []) in
        let own : g k ≡ R.add (net_in xs k) (amount x) = net-push xs x k ∙ ap (λ b. cond b (R.add (net_in xs k) (amount x)) (net_in xs k)) ((decides k k).1 refl) in
        let others : (a : A) → same k a ≡ false → net_in xs a ≡ g a = λ a e. sym (net-push xs x a ∙ ap (λ b. cond b (R.add (net_in xs a) (amount x)) (net_in xs a)) (turned a k ∙ e)) in
        ap (insert_entry same (entries_in xs) k) (sym own)
        ∙ insert-valued (net_in xs) g k others (first_seen same ks) (first_seen_separate same ks)
        ∙ ap (map (λ a. (a, g a))) (
        ap (λ b. cond b (first_seen same ks) (first_seen same ks ++ k ∷ [])) (any-first_seen ks k)
        ∙ sym (first_seen-push same decides ks k)
        ∙ ap (first_seen same) (sym (map-append key xs (x ∷ []))))

-- a map whose keys are seen through a view, and compared by it
module _ {A K V : Type 0} (same : A → A → Bool) (view : K → A) where
  abbrev pub viewed : List (K × V) → List (A × V)
  viewed es = map (λ e. (view e.0, e.1)) es

  pub lookup-viewed : (k : K) (es : List (K × V)) → lookup (λ j. same (view k) (view j)) es ≡ lookup (same (view k)) (viewed es)
  lookup-viewed k [] = refl
  lookup-viewed k (e ∷ es) = ap (cond (same (view k) (view e.0)) (Some e.1)) (lookup-viewed k es)

  pub insert-viewed : (es : List (K × V)) (k : K) (v : V) → viewed (insert_entry (λ i j. same (view i) (view j)) es k v) ≡ insert_entry same (viewed es) (view k) v
  insert-viewed [] k v = refl
  insert-viewed (e ∷ es) k v = by_test (same (view k) (view e.0)) (insert-viewed es k v)
    where
      by_test : (p : Bool) → viewed (insert_entry (λ i j. same (view i) (view j)) es k v) ≡ insert_entry same (viewed es) (view k) v
          → viewed (cond p ((e.0, v) ∷ es) (e ∷ insert_entry (λ i j. same (view i) (view j)) es k v)) ≡ cond p ((view e.0, v) ∷ viewed es) ((view e.0, e.1) ∷ insert_entry same (viewed es) (view k) v)
      by_test true rest = refl
      by_test false rest = ap (λ t. (view e.0, e.1) ∷ t) rest

-- The step of a map of nets: x is added to the value at its key, or to zero where the key is new.
module _ {A K F X : Type 0} (same : A → A → Bool) (decides : (a b : A) → Decides (same a b) (a ≡ b)) (view : K → A) {R : Ring F} (laws : IsCommutativeRing R) (key : X → A) (amount : X → F) where
  pub one_more : (xs : List X) (x : X) (es : List (K × F)) (k : K) (before next : F)
      → viewed same view es ≡ entries_in same decides laws key amount xs
      → view k ≡ key x
      → before ≡ unwrap_or (lookup (λ j. same (view k) (view j)) es) R.zero
      → next ≡ R.add before (amount x)
      → viewed same view (insert_entry (λ i j. same (view i) (view j)) es k next) ≡ entries_in same decides laws key amount (xs ++ x ∷ [])
  one_more xs x es k before next so_far is before_is next_is =
      let entries = entries_in same decides laws key amount xs in
      let found : before ≡ net_in same decides laws key amount xs (key x) =
      before_is
      ∙ ap (λ o. unwrap_or o R.zero) (lookup-viewed same view k es ∙ (λ i. lookup (same (is i)) (so_far i)))
      ∙ net-lookup same decides laws key amount xs (key x) in
      insert-viewed same view es k next
      ∙ (λ i. insert_entry same (so_far i) (is i) ((next_is ∙ ap (λ t. R.add t (amount x)) found) i))
      ∙ entries-push same decides laws key amount xs x

-- one more item, counted where it passes
pub count-more : {X : Type 0} (p : X → Bool) (xs : List X) (i : ℕ) (x : X) → i < length xs → x ≡ get_or xs i x → length (filter p (take (i + 1) xs)) ≡ length (filter p (take i xs)) + cond (p x) 1 0
count-more p xs i x lt is =
    ap (λ t. length (filter p t)) (take_item xs i x lt is)
    ∙ ap length (filter-append p (take i xs) (x ∷ []))
    ∙ length-append (filter p (take i xs)) (filter p (x ∷ []))
    ∙ ap (λ n. length (filter p (take i xs)) + n) (by_test (p x))
  where
    by_test : (b : Bool) → length (cond b (x ∷ []) []) ≡ cond b 1 0
    by_test true = refl
    by_test false = refl

-- how many values pass is how many keys have a value that does
pub counted-values : {A V : Type 0} (p : V → Bool) (f : A → V) (ks : List A) → length (filter p (map (λ e. e.1) (map {B = A × V} (λ a. (a, f a)) ks))) ≡ length (filter (λ a. p (f a)) ks)
counted-values p f ks =
    ap (λ t. length (filter p t)) (map-map (λ e. e.1) (λ a. (a, f a)) ks)
    ∙ ap length (filter_images f (λ a. p (f a)) p (λ a. refl) ks) ∙ length-map (filter (λ a. p (f a)) ks) f

-- a view of the keys leaves the values
pub values-viewed : {A K V : Type 0} (view : K → A) (es : List (K × V)) → map (λ e. e.1) es ≡ map (λ e. e.1) (map {B = A × V} (λ e. (view e.0, e.1)) es)
values-viewed view es = sym (map-map (λ e. e.1) (λ e. (view e.0, e.1)) es)
