-- What lists that are put on and taken off at the end have room for, the last one first.
use Rattle.std.proofs.Common.{◌≡◌, ◌++◌, ℕ, List, [], ◌∷◌, map, reverse, length, get_or, drop, ap, sym, refl, ◌∙◌, arith}
use Rattle.std.proofs.lemmas.List.{map_push, reverse-append}

module _ {A : Type 0} (room : A → ℕ) where
  -- one more list is the first
  pub rooms_push : (xs : List A) (x : A) {ys : List A} → ys ≡ xs ++ x ∷ [] → reverse (map room ys) ≡ room x ∷ reverse (map room xs)
  rooms_push xs x is = ap (λ l. reverse (map room l)) is ∙ ap reverse (map_push room xs x) ∙ reverse-append (map room xs) (room x ∷ [])

  -- the others are left where the last one is taken
  pub rooms_pop : (xs : List A) (x : A) {ys : List A} → ys ≡ xs ++ x ∷ [] → reverse (map room xs) ≡ drop 1 (reverse (map room ys))
  rooms_pop xs x is = sym (ap (drop 1) (rooms_push xs x is))

  -- none is left where there is none
  pub no_rooms : (xs ys : List A) → length ys ≡ 0 → ys ≡ xs ++ [] → reverse (map room xs) ≡ drop 1 (reverse (map room ys))
  no_rooms [] [] none is = refl
  no_rooms (x ∷ xs) [] none is = absurd cc
  no_rooms xs (y ∷ ys) none is = absurd (omega arith)

  -- what the one that is taken has room for
  pub room_of_last : (xs : List A) (x : A) {ys : List A} → ys ≡ xs ++ x ∷ [] → room x ≡ get_or (reverse (map room ys)) 0 0
  room_of_last xs x is = sym (ap (λ l. get_or l 0 0) (rooms_push xs x is))

  -- nothing, where there is none
  pub room_of_none : (ys : List A) → length ys ≡ 0 → 0 ≡ get_or (reverse (map room ys)) 0 0
  room_of_none [] none = refl
  room_of_none (y ∷ ys) none = absurd (omega arith)
