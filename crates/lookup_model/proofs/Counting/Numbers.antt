-- How many items of a list have a property.
use Rattle.std.proofs.Common.{◌≡◌, ◌≢◌, ℕ, zero, suc, ◌+◌, ◌≤◌, inl, inr, List, [], ◌∷◌, ◌++◌, length, map, refl, sym, subst, arith}
use Rattle.std.specs.List.{AllByRecursion}
use Rattle.field.specs.Distinct.{IsDistinct}
use Rattle.lookup_model.specs.Batches.Grid.{IsNumberOf}

module _ {A : Type 0} (P : A → Type 0) where
  -- the number of two lists together is the sum of their numbers
  pub number_of_parts : (xs ys : List A) (n : ℕ) → IsNumberOf P (xs ++ ys) n → (a : ℕ) × (b : ℕ) × IsNumberOf P xs a × IsNumberOf P ys b × (n ≡ a + b)
  number_of_parts [] ys n count = (0, n, refl, count, omega arith)
  number_of_parts (x ∷ xs) ys n (inl (m, is, here, rest)) =
      let (a, b, first, second, sum) = number_of_parts xs ys m rest in
      (a + 1, b, inl (a, refl, here, first), second, omega (arith, is, sum))
  number_of_parts (x ∷ xs) ys n (inr (not_here, rest)) =
      let (a, b, first, second, sum) = number_of_parts xs ys n rest in
      (a, b, inr (not_here, first), second, sum)

  -- the number of two lists together, from those of each
  pub number_of_both : (xs ys : List A) (a b : ℕ) → IsNumberOf P xs a → IsNumberOf P ys b → IsNumberOf P (xs ++ ys) (a + b)
  number_of_both [] ys a b first second = subst (IsNumberOf P ys) (omega (arith, first)) second
  number_of_both (x ∷ xs) ys a b (inl (m, is, here, rest)) second = inl (m + b, omega (arith, is), here, number_of_both xs ys m b rest second)
  number_of_both (x ∷ xs) ys a b (inr (not_here, rest)) second = inr (not_here, number_of_both xs ys a b rest second)

  -- one more item
  pub number_having : (xs : List A) (x : A) (n : ℕ) → P x → IsNumberOf P xs n → IsNumberOf P (xs ++ x ∷ []) (n + 1)
  number_having xs x n here count = number_of_both xs (x ∷ []) n 1 count (inl (0, omega arith, here, refl))

  pub number_lacking : (xs : List A) (x : A) (n : ℕ) → ¬ P x → IsNumberOf P xs n → IsNumberOf P (xs ++ x ∷ []) n
  number_lacking xs x n not_here count =
      subst (IsNumberOf P (xs ++ x ∷ [])) (omega arith) (number_of_both xs (x ∷ []) n 0 count (inr (not_here, refl)))

  -- there are no more of them than items
  pub number_within : (xs : List A) (n : ℕ) → IsNumberOf P xs n → n ≤ length xs
  number_within [] n count = omega (arith, count)
  number_within (x ∷ xs) n (inl (m, is, here, rest)) = omega (arith, is, number_within xs m rest)
  number_within (x ∷ xs) n (inr (not_here, rest)) = omega (arith, number_within xs n rest)

  -- those items, as a list that is distinct if the whole list is
  pub having : (xs : List A) (n : ℕ) → IsNumberOf P xs n
      → (ys : List A) × (length ys ≡ n) × AllByRecursion P ys × ((x : A) → AllByRecursion (λ y. x ≢ y) xs → AllByRecursion (λ y. x ≢ y) ys) × (IsDistinct xs → IsDistinct ys)
  having [] n count = ([], sym count, tt, (λ x each. tt), (λ distinct. tt))
  having (x ∷ xs) n (inl (m, is, here, rest)) =
      let (ys, long, all, apart, distinct) = having xs m rest in
      (x ∷ ys, omega (arith, long, is), (here, all), (λ y each. (each.0, apart y each.1)), (λ d. (apart x d.0, distinct d.1)))
  having (x ∷ xs) n (inr (not_here, rest)) =
      let (ys, long, all, apart, distinct) = having xs n rest in
      (ys, long, all, (λ y each. apart y each.1), (λ d. distinct d.1))

  -- the first n items of a list
  pub shortened : (n : ℕ) (xs : List A) → n ≤ length xs → AllByRecursion P xs → IsDistinct xs
      → (ys : List A) × (length ys ≡ n) × AllByRecursion P ys × ((x : A) → AllByRecursion (λ y. x ≢ y) xs → AllByRecursion (λ y. x ≢ y) ys) × IsDistinct ys
  shortened zero xs within all distinct = ([], refl, tt, (λ x each. tt), tt)
  shortened (suc n) [] within all distinct = absurd (omega (arith, within))
  shortened (suc n) (x ∷ xs) within all distinct =
      let (ys, long, kept, apart, separate) = shortened n xs (omega (arith, within)) all.1 distinct.1 in
      (x ∷ ys, omega (arith, long), (all.0, kept), (λ y each. (each.0, apart y each.1)), (apart x distinct.0, separate))

-- the number of images
pub number_mapped : {A B : Type 0} (f : B → A) (P : A → Type 0) (xs : List B) (n : ℕ) → IsNumberOf P (map f xs) n → IsNumberOf (λ x. P (f x)) xs n
number_mapped f P [] n count = count
number_mapped f P (x ∷ xs) n (inl (m, is, here, rest)) = inl (m, is, here, number_mapped f P xs m rest)
number_mapped f P (x ∷ xs) n (inr (not_here, rest)) = inr (not_here, number_mapped f P xs n rest)

pub mapped_number : {A B : Type 0} (f : B → A) (P : A → Type 0) (xs : List B) (n : ℕ) → IsNumberOf (λ x. P (f x)) xs n → IsNumberOf P (map f xs) n
mapped_number f P [] n count = count
mapped_number f P (x ∷ xs) n (inl (m, is, here, rest)) = inl (m, is, here, mapped_number f P xs m rest)
mapped_number f P (x ∷ xs) n (inr (not_here, rest)) = inr (not_here, mapped_number f P xs n rest)
