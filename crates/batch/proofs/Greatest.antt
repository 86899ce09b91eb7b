-- The greatest of some numbers.
use Rattle.std.proofs.Common.{◌≡◌, ◌≤◌, ◌<◌, ◌+◌, ◌++◌, ℕ, List, [], ◌∷◌, get_or, length, map, max, take, ap, ◌∙◌, arith}
use Rattle.std.specs.List.{AllByRecursion, flat_map}
use Rattle.list_laws.proofs.Images.{images_more}
use Rattle.list_laws.proofs.Parts.{flat_next}
use Rattle.lookup_model.specs.LookupDegree.{greatest}

-- it is the least number that none exceeds
pub each_below : (n : ℕ) (ns : List ℕ) → greatest ns ≤ n → AllByRecursion (λ m. m ≤ n) ns
each_below n [] le = tt
each_below n (m ∷ ms) le = (omega (arith, le), each_below n ms (omega (arith, le)))

pub least : (n : ℕ) (ns : List ℕ) → AllByRecursion (λ m. m ≤ n) ns → greatest ns ≤ n
least n [] all = omega arith
least n (m ∷ ms) all = omega (arith, all.0, least n ms all.1)

-- that of two lists, of one more part, and of one more number
pub greatest_append : (xs ys : List ℕ) → greatest (xs ++ ys) ≡ max (greatest xs) (greatest ys)
greatest_append [] ys = omega arith
greatest_append (x ∷ xs) ys = omega (arith, greatest_append xs ys)

pub widest_more : {X : Type 0} (f : X → List ℕ) (xs : List X) (i : ℕ) (x : X) (start now next : ℕ) → i < length xs → x ≡ get_or xs i x → now ≡ max start (greatest (flat_map f (take i xs))) → next ≡ max now (greatest (f x)) → next ≡ max start (greatest (flat_map f (take (i + 1) xs)))
widest_more f xs i x start now next lt is so_far next_is =
    omega (arith, next_is, so_far, ap greatest (flat_next f xs i x lt is) ∙ greatest_append (flat_map f (take i xs)) (f x))

pub widest_next : {X : Type 0} (f : X → ℕ) (xs : List X) (i : ℕ) (x : X) (start now next : ℕ) → i < length xs → x ≡ get_or xs i x → now ≡ max start (greatest (map f (take i xs))) → next ≡ max now (f x) → next ≡ max start (greatest (map f (take (i + 1) xs)))
widest_next f xs i x start now next lt is so_far next_is =
    omega (arith, next_is, so_far, ap greatest (images_more f xs i x lt is) ∙ greatest_append (map f (take i xs)) (f x ∷ []))
