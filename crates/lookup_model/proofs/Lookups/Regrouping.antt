-- A sum over messages is the sum over their distinct keys, each with its net, if its terms are additive
-- in the multiplicity.
use Rattle.std.proofs.Common.{◌≡◌, Bool, true, false, cond, not, ◌||◌, List, [], ◌∷◌, refl, sym, ap, ◌∙◌, Decides, map}
use Rattle.std.proofs.lemmas.Bool.{false≢true, not-true, true≢false}
use Rattle.std.specs.List.{filter, list_any, AllByRecursion}
use Rattle.list_laws.proofs.Each.{all_kept, filter_passes, all_weaker, each_of}
use Rattle.list_laws.proofs.Images.{map_same}
use Rattle.field.specs.Ring.{Ring, IsCommutativeRing}
use Rattle.field.specs.laws.RingFacts.{zero_add}
use Rattle.field.specs.Sums.{sum_in}
use Rattle.lookup_model.specs.Net.{first_seen}
use Rattle.lookup_model.proofs.SumLaws.{sum_in-zeros, sum_in-map-add}

-- no item passes the test with one after it
abbrev pub IsSeparate : {A : Type 0} → (A → A → Bool) → List A → Type 0
IsSeparate same [] = Unit {0}
IsSeparate same (x ∷ xs) = AllByRecursion (λ y. same x y ≡ false) xs × IsSeparate same xs

-- an item of the list is the same as x
abbrev pub Holds : {A : Type 0} → (A → A → Bool) → List A → A → Type 0
Holds same xs x = list_any (λ y. same y x) xs ≡ true

module _ {A : Type 0} (same : A → A → Bool) where
  -- fewer items of a separate list are separate
  pub IsSeparate-filter : (p : A → Bool) (xs : List A) → IsSeparate same xs → IsSeparate same (filter p xs)
  IsSeparate-filter p [] h = tt
  IsSeparate-filter p (x ∷ xs) h = by_test (p x) (IsSeparate-filter p xs h.1)
    where
      by_test : (b : Bool) → IsSeparate same (filter p xs) → IsSeparate same (cond b (x ∷ filter p xs) (filter p xs))
      by_test true rest = (all_kept (λ y. same x y ≡ false) p xs h.0, rest)
      by_test false rest = rest

  -- the items that are first seen are separate
  pub first_seen_separate : (xs : List A) → IsSeparate same (first_seen same xs)
  first_seen_separate [] = tt
  first_seen_separate (x ∷ xs) =
      let p = λ (y : A). not (same x y) in
      (all_weaker (λ y. p y ≡ true) (λ y. same x y ≡ false) (λ y e. not-true (same x y) e) (filter p (first_seen same xs)) (filter_passes p (first_seen same xs)), IsSeparate-filter p (first_seen same xs) (first_seen_separate xs))

module _ {A : Type 0} (same : A → A → Bool) (decides : (a b : A) → Decides (same a b) (a ≡ b)) where
  -- a test of an item and itself passes
  pub same_self : (a : A) → same a a ≡ true
  same_self a = (decides a a).1 refl

  or_left : (a b : Bool) → a ≡ true → (a || b) ≡ true
  or_left true b e = refl
  or_left false b e = absurd (false≢true e)

  or_right : (a b : Bool) → b ≡ true → (a || b) ≡ true
  or_right true b e = refl
  or_right false b e = e

  -- an item that is not the first is kept without the first
  Holds-filter : (x z : A) → same x z ≡ false → (ys : List A) → Holds same ys z → Holds same (filter (λ y. not (same x y)) ys) z
  Holds-filter x z apart [] h = h
  Holds-filter x z apart (y ∷ ys) h = by_test (same x y) refl (same y z) refl (Holds-filter x z apart ys)
    where
      rest : List A
      rest = filter (λ (w : A). not (same x w)) ys

      by_test : (b : Bool) → same x y ≡ b → (d : Bool) → same y z ≡ d → (Holds same ys z → Holds same rest z) → Holds same (cond (not b) (y ∷ rest) rest) z
      by_test true e true f keep = absurd (true≢false (sym ((decides x z).1 ((decides x y).0 e ∙ (decides y z).0 f)) ∙ apart))
      by_test true e false f keep = keep (sym (ap (λ t. t || list_any (λ w. same w z) ys) f) ∙ h)
      by_test false e true f keep = or_left (same y z) (list_any (λ w. same w z) rest) f
      by_test false e false f keep = or_right (same y z) (list_any (λ w. same w z) rest) (keep (sym (ap (λ t. t || list_any (λ w. same w z) ys) f) ∙ h))

  -- every item is among those that are first seen
  pub first_seen_holds : (xs : List A) → AllByRecursion (Holds same (first_seen same xs)) xs
  first_seen_holds [] = tt
  first_seen_holds (x ∷ xs) =
      let kept = filter (λ (y : A). not (same x y)) (first_seen same xs) in
      (or_left (same x x) (list_any (λ w. same w x) kept) (same_self x), all_weaker (Holds same (first_seen same xs)) (Holds same (first_seen same (x ∷ xs))) (λ z h. by_test z (same x z) refl h) xs (first_seen_holds xs))
    where
      by_test : (z : A) (b : Bool) → same x z ≡ b → Holds same (first_seen same xs) z → Holds same (first_seen same (x ∷ xs)) z
      by_test z true e h = or_left (same x z) (list_any (λ w. same w z) (filter (λ y. not (same x y)) (first_seen same xs))) e
      by_test z false e h = or_right (same x z) (list_any (λ w. same w z) (filter (λ y. not (same x y)) (first_seen same xs))) (Holds-filter x z e (first_seen same xs) h)

-- the sum of the multiplicities of the items that have a key
abbrev pub net_by : {M X F : Type 0} → Ring F → (X → X → Bool) → (M → X) → (M → F) → List M → X → F
net_by R same key count ms k = sum_in R (map count (filter (λ m. same k (key m)) ms))

module _ {X K : Type 0} {S : Ring K} (laws : IsCommutativeRing S) (same : X → X → Bool) (decides : (a b : X) → Decides (same a b) (a ≡ b)) (c : X → K) (x : X) where
  -- the value at x, and zero elsewhere
  abbrev pub at_key : X → K
  at_key k = cond (same k x) (c k) S.zero

  at_other : (k : X) (b : Bool) → b ≡ false → cond b (c k) S.zero ≡ S.zero
  at_other k true e = absurd (true≢false e)
  at_other k false e = refl

  -- among separate keys, of which one is x, only x counts
  pub sum_in-at_key : (ks : List X) → IsSeparate same ks → Holds same ks x → sum_in S (map at_key ks) ≡ c x
  sum_in-at_key [] apart h = absurd (false≢true h)
  sum_in-at_key (k ∷ ks) apart h = by_test (same k x) refl (sum_in-at_key ks apart.1)
    where
      by_test : (b : Bool) → same k x ≡ b → (Holds same ks x → sum_in S (map at_key ks) ≡ c x) → S.add (cond b (c k) S.zero) (sum_in S (map at_key ks)) ≡ c x
      by_test true e rest =
          let is : k ≡ x = (decides k x).0 e in
          let others : AllByRecursion (λ (y : X). at_key y ≡ S.zero) ks = all_weaker (λ (y : X). same k y ≡ false) (λ (y : X). at_key y ≡ S.zero) (λ y f. at_other y (same y x) (differs y (same y x) refl f)) ks apart.0 in
          ap (S.add (c k)) (sum_in-zeros laws at_key ks others) ∙ laws.add_zero (c k) ∙ ap c is
        where
          differs : (y : X) (b : Bool) → same y x ≡ b → same k y ≡ false → b ≡ false
          differs y true g f = absurd (true≢false (sym ((decides k y).1 ((decides k x).0 e ∙ sym ((decides y x).0 g))) ∙ f))
          differs y false g f = refl
      by_test false e rest = zero_add laws (sum_in S (map at_key ks)) ∙ rest (sym (ap (λ t. t || list_any (λ y. same y x) ks) e) ∙ h)

module _ {M X F K : Type 0} (R : Ring F) {S : Ring K} (laws : IsCommutativeRing S) (same : X → X → Bool) (decides : (a b : X) → Decides (same a b) (a ≡ b)) (key : M → X) (count : M → F) (term : X → F → K) (adds : (x : X) (a b : F) → term x (R.add a b) ≡ S.add (term x a) (term x b)) (none : (x : X) → term x R.zero ≡ S.zero) where
  -- one more message adds its part at its key
  term-net : (m : M) (ms : List M) (k : X) → term k (net_by R same key count (m ∷ ms) k) ≡ S.add (at_key laws same decides (λ x. term x (count m)) (key m) k) (term k (net_by R same key count ms k))
  term-net m ms k = by_test (same k (key m))
    where
      by_test : (b : Bool) → term k (sum_in R (map count (cond b (m ∷ filter (λ n. same k (key n)) ms) (filter (λ n. same k (key n)) ms)))) ≡ S.add (cond b (term k (count m)) S.zero) (term k (net_by R same key count ms k))
      by_test true = adds k (count m) (net_by R same key count ms k)
      by_test false = sym (zero_add laws (term k (net_by R same key count ms k)))

  -- the sum over the messages, over separate keys that hold all of theirs
  pub regrouped : (ks : List X) → IsSeparate same ks → (ms : List M) → AllByRecursion (λ m. Holds same ks (key m)) ms → sum_in S (map (λ k. term k (net_by R same key count ms k)) ks) ≡ sum_in S (map (λ m. term (key m) (count m)) ms)
  regrouped ks apart [] held = sum_in-zeros laws (λ k. term k R.zero) ks (each_of (λ k. term k R.zero ≡ S.zero) none ks)
  regrouped ks apart (m ∷ ms) held =
      let d = at_key laws same decides (λ (x : X). term x (count m)) (key m) in
      let e = λ (k : X). term k (net_by R same key count ms k) in
      ap (sum_in S) (map_same (λ k. term k (net_by R same key count (m ∷ ms) k)) (λ k. S.add (d k) (e k)) (term-net m ms) ks) ∙ sum_in-map-add laws d e ks ∙ (λ i. S.add (sum_in-at_key laws same decides (λ x. term x (count m)) (key m) ks apart held.0 i) (regrouped ks apart ms held.1 i))
