-- Lists from which each item is taken out in turn.
use Rattle.std.proofs.Common.{◌≡◌, ℕ, ◌+◌, ◌≤◌, max, List, [], ◌∷◌, ◌++◌, map, refl, ap, sym, subst, ◌∙◌, arith}
use Rattle.std.proofs.lemmas.List.{map-append, map_push}
use Rattle.list_laws.proofs.Images.{map-map}
use Rattle.field.specs.Ring.{Ring, IsCommutativeRing}
use Rattle.field.specs.laws.RingFacts.{add_mul, zero_mul}
use Rattle.field.specs.Sums.{product_in, sum_in, taken_out}
use Rattle.lookup_model.specs.LookupDegree.{greatest, total}
use Rattle.lookup_model.proofs.DegreeBounds.{greatest-push}
use Rattle.lookup_model.proofs.SumLaws.{sum_in-push}

module _ {X : Type 0} where
  -- One more item is appended to the others of each earlier item, and has all earlier items as its
  -- others.
  pub taken_out-push : (xs : List X) (x : X) → taken_out (xs ++ x ∷ []) ≡ map (λ t. (t.0, t.1 ++ x ∷ [])) (taken_out xs) ++ (x, xs) ∷ []
  taken_out-push [] x = refl
  taken_out-push (y ∷ ys) x =
      let with_last : X × List X → X × List X = λ t. (t.0, t.1 ++ x ∷ []) in
      let with_first : X × List X → X × List X = λ t. (t.0, y ∷ t.1) in
      ap (λ ts. (y, ys ++ x ∷ []) ∷ ts)
      (ap (map with_first) (taken_out-push ys x)
      ∙ map-append with_first (map with_last (taken_out ys)) ((x, ys) ∷ [])
      ∙ ap (λ ts. ts ++ (x, y ∷ ys) ∷ []) (map-map with_first with_last (taken_out ys) ∙ sym (map-map with_last with_first (taken_out ys))))

module _ {K : Type 0} {S : Ring K} (laws : IsCommutativeRing S) where
  -- a product with one more factor
  pub product_in-push : (xs : List K) (y : K) → product_in S (xs ++ y ∷ []) ≡ S.mul (product_in S xs) y
  product_in-push [] y = laws.mul_comm y S.one
  product_in-push (x ∷ xs) y =
      ap (S.mul x) (product_in-push xs y) ∙ sym (laws.mul_assoc x (product_in S xs) y)

  module _ {Y : Type 0} where
    -- a sum of multiples
    pub sum_in-scaled : (f : Y → K) (c : K) (xs : List Y) → sum_in S (map (λ x. S.mul (f x) c) xs) ≡ S.mul (sum_in S (map f xs)) c
    sum_in-scaled f c [] = sym (zero_mul laws c)
    sum_in-scaled f c (x ∷ xs) =
        ap (S.add (S.mul (f x) c)) (sum_in-scaled f c xs) ∙ sym (add_mul laws (f x) (sum_in S (map f xs)) c)

    -- equal values have equal sums
    pub sum_in-same : (f g : Y → K) → ((x : Y) → f x ≡ g x) → (xs : List Y) → sum_in S (map f xs) ≡ sum_in S (map g xs)
    sum_in-same f g same [] = refl
    sum_in-same f g same (x ∷ xs) = λ i. S.add (same x i) (sum_in-same f g same xs i)

  module _ {X : Type 0} (p d : X → K) where
    -- the product of all factors, and the sum of each item times the other factors
    abbrev pub product_of : List X → K
    product_of xs = product_in S (map d xs)

    abbrev pub item_of : X × List X → K
    item_of t = S.mul (p t.0) (product_of t.1)

    abbrev pub sum_of : List X → K
    sum_of xs = sum_in S (map item_of (taken_out xs))

    pub product_of-push : (xs : List X) (x : X) → product_in S (map d (xs ++ x ∷ [])) ≡ S.mul (product_in S (map d xs)) (d x)
    product_of-push xs x = ap (product_in S) (map_push d xs x) ∙ product_in-push (map d xs) (d x)

    pub sum_of-push : (xs : List X) (x : X) → sum_of (xs ++ x ∷ []) ≡ S.add (S.mul (sum_of xs) (d x)) (S.mul (p x) (product_of xs))
    sum_of-push xs x =
        let with_last : X × List X → X × List X = λ t. (t.0, t.1 ++ x ∷ []) in
        let raised : (t : X × List X) → item_of (with_last t) ≡ S.mul (item_of t) (d x) =
        λ t. ap (S.mul (p t.0)) (product_of-push t.1 x) ∙ sym (laws.mul_assoc (p t.0) (product_of t.1) (d x)) in
        ap (λ ts. sum_in S (map item_of ts)) (taken_out-push xs x)
        ∙ ap (sum_in S) (map_push item_of (map with_last (taken_out xs)) (x, xs))
        ∙ sum_in-push laws (map item_of (map with_last (taken_out xs))) (item_of (x, xs))
        ∙ ap (λ s. S.add s (item_of (x, xs))) (ap (sum_in S) (map-map item_of with_last (taken_out xs)) ∙ sum_in-same (λ t. item_of (with_last t)) (λ t. S.mul (item_of t) (d x)) raised (taken_out xs) ∙ sum_in-scaled item_of (d x) (taken_out xs))

-- a sum of whole numbers with one more number
pub total-push : (ns : List ℕ) (n : ℕ) → total (ns ++ n ∷ []) ≡ total ns + n
total-push [] n = omega arith
total-push (m ∷ ns) n = omega (arith, total-push ns n)

module _ {Y : Type 0} where
  -- the greatest number of a list whose items all grow by the same amount
  greatest_shift : (f g : Y → ℕ) (c : ℕ) → ((x : Y) → g x ≡ f x + c) → (xs : List Y) → greatest (map f xs) + c ≤ max c (greatest (map g xs))
  greatest_shift f g c grows [] = omega arith
  greatest_shift f g c grows (x ∷ xs) = omega (arith, grows x, greatest_shift f g c grows xs)

module _ {X : Type 0} (m d : X → ℕ) where
  -- the degree of the product of all factors, and of the sum of each item times the others
  abbrev product_degree : List X → ℕ
  product_degree xs = total (map d xs)

  abbrev item_degree : X × List X → ℕ
  item_degree t = m t.0 + product_degree t.1

  abbrev sum_degree : List X → ℕ
  sum_degree xs = greatest (map item_degree (taken_out xs))

  pub product_degree-push : (xs : List X) (x : X) → total (map d (xs ++ x ∷ [])) ≡ total (map d xs) + d x
  product_degree-push xs x = ap total (map_push d xs x) ∙ total-push (map d xs) (d x)

  -- with one more item, the degree so far and that of the item are at most those of the longer list
  pub degrees_push : (xs : List X) (x : X) (numerator denominator next : ℕ) → numerator ≤ max (product_degree xs) (sum_degree xs) → denominator ≤ product_degree xs → next ≤ max (numerator + d x) (m x + denominator) → next ≤ max (product_degree (xs ++ x ∷ [])) (sum_degree (xs ++ x ∷ []))
  degrees_push xs x numerator denominator next above below step =
      let with_last : X × List X → X × List X = λ t. (t.0, t.1 ++ x ∷ []) in
      let grown : (t : X × List X) → item_degree (with_last t) ≡ item_degree t + d x =
      λ t. omega (arith, product_degree-push t.1 x) in
      let longer : sum_degree (xs ++ x ∷ []) ≡ greatest (map item_degree (map with_last (taken_out xs)) ++ item_degree (x, xs) ∷ []) =
      ap (λ ts. greatest (map item_degree ts)) (taken_out-push xs x) ∙ ap greatest (map_push item_degree (map with_last (taken_out xs)) (x, xs)) in
      let shifted : sum_degree xs + d x ≤ max (d x) (greatest (map item_degree (map with_last (taken_out xs)))) =
      subst (λ (ns : List ℕ). sum_degree xs + d x ≤ max (d x) (greatest ns)) (sym (map-map item_degree with_last (taken_out xs))) (greatest_shift item_degree (λ t. item_degree (with_last t)) (d x) grown (taken_out xs)) in
      omega (arith, above, below, step, product_degree-push xs x, longer, shifted, greatest-push (map item_degree (map with_last (taken_out xs))) (item_degree (x, xs)))
