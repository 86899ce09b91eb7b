-- Sums of lists of ring elements.
use Rattle.std.proofs.Common.{◌≡◌, ℕ, ◌+◌, ◌<◌, length, get_or, Bool, true, false, cond, List, [], ◌∷◌, ◌++◌, map, take, refl, sym, ap, ◌∙◌}
use Rattle.std.proofs.lemmas.List.{map_push, take_more}
use Rattle.std.specs.List.{filter, AllByRecursion}
use Rattle.field.specs.Ring.{Ring, IsCommutativeRing}
use Rattle.field.specs.laws.RingFacts.{zero_add, add_swap}
use Rattle.field.specs.Sums.{sum_in}

module _ {K : Type 0} {S : Ring K} (laws : IsCommutativeRing S) where
  pub sum_in-append : (xs ys : List K) → sum_in S (xs ++ ys) ≡ S.add (sum_in S xs) (sum_in S ys)
  sum_in-append [] ys = sym (zero_add laws (sum_in S ys))
  sum_in-append (x ∷ xs) ys = ap (S.add x) (sum_in-append xs ys) ∙ sym (laws.add_assoc x (sum_in S xs) (sum_in S ys))

  -- one more item at the end
  pub sum_in-push : (xs : List K) (y : K) → sum_in S (xs ++ y ∷ []) ≡ S.add (sum_in S xs) y
  sum_in-push xs y = sum_in-append xs (y ∷ []) ∙ ap (S.add (sum_in S xs)) (laws.add_zero y)

  -- the sum of a prefix that is one item longer
  pub sum_next : (xs : List K) (i : ℕ) (x sum next : K) → take (i + 1) xs ≡ take i xs ++ x ∷ [] → sum ≡ sum_in S (take i xs) → next ≡ S.add sum x → next ≡ sum_in S (take (i + 1) xs)
  sum_next xs i x sum next longer so_far next_is =
      next_is ∙ ap (λ s. S.add s x) so_far ∙ sym (sum_in-push (take i xs) x) ∙ ap (sum_in S) (sym longer)

  -- the sum of what f gives for a prefix that is one item longer
  pub sum_mapped_next : {X : Type 0} (f : X → K) (xs : List X) (i : ℕ) (x : X) (sum next : K) → i < length xs → x ≡ get_or xs i x → sum ≡ sum_in S (map f (take i xs)) → next ≡ S.add sum (f x) → next ≡ sum_in S (map f (take (i + 1) xs))
  sum_mapped_next f xs i x sum next lt is so_far next_is =
      next_is ∙ ap (λ s. S.add s (f x)) so_far ∙ sym (sum_in-push (map f (take i xs)) (f x))
      ∙ ap (sum_in S) (sym (map_push f (take i xs) x) ∙ ap (map f) (ap (λ t. take i xs ++ t ∷ []) is ∙ sym (take_more xs i x lt)))

  module _ {X : Type 0} where
    -- a sum of zeros
    pub sum_in-zeros : (f : X → K) (xs : List X) → AllByRecursion (λ x. f x ≡ S.zero) xs → sum_in S (map f xs) ≡ S.zero
    sum_in-zeros f [] h = refl
    sum_in-zeros f (x ∷ xs) h = (λ i. S.add (h.0 i) (sum_in-zeros f xs h.1 i)) ∙ laws.add_zero S.zero

    -- a sum of sums
    pub sum_in-map-add : (f g : X → K) (xs : List X) → sum_in S (map (λ x. S.add (f x) (g x)) xs) ≡ S.add (sum_in S (map f xs)) (sum_in S (map g xs))
    sum_in-map-add f g [] = sym (laws.add_zero S.zero)
    sum_in-map-add f g (x ∷ xs) = ap (S.add (S.add (f x) (g x))) (sum_in-map-add f g xs) ∙ add_swap laws (f x) (g x) (sum_in S (map f xs)) (sum_in S (map g xs))

    -- items whose value is zero may be left out
    pub sum_in-filter : (f : X → K) (p : X → Bool) → ((x : X) → p x ≡ false → f x ≡ S.zero) → (xs : List X) → sum_in S (map f (filter p xs)) ≡ sum_in S (map f xs)
    sum_in-filter f p drops [] = refl
    sum_in-filter f p drops (x ∷ xs) = by_test (p x) refl (sum_in-filter f p drops xs)
      where
        by_test : (b : Bool) → p x ≡ b → sum_in S (map f (filter p xs)) ≡ sum_in S (map f xs) → sum_in S (map f (cond b (x ∷ filter p xs) (filter p xs))) ≡ S.add (f x) (sum_in S (map f xs))
        by_test true e rest = ap (S.add (f x)) rest
        by_test false e rest = rest ∙ sym (zero_add laws (sum_in S (map f xs))) ∙ ap (λ t. S.add t (sum_in S (map f xs))) (sym (drops x e))
