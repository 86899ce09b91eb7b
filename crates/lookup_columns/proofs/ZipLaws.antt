-- Lists whose items are related item by item.
use Rattle.std.proofs.Common.{◌≡◌, ◌<◌, ◌∷◌, ℕ, zero, suc, List, [], length, get_or, sym, refl, subst, arith}
use Rattle.std.specs.List.{AllZip}

-- the item beside an item
pub record Beside {A B : Type 0} (R : A → B → Type 0) (ys : List B) (i : ℕ) (x : A) : Type 0 where
  pub item : B
  pub there : item ≡ get_or ys i item
  pub within : i < length ys
  pub holds : R x item

module _ {A B : Type 0} (R : A → B → Type 0) where
  pub beside : (xs : List A) (ys : List B) (i : ℕ) (x : A) → AllZip R xs ys → i < length xs → x ≡ get_or xs i x → Beside R ys i x
  beside [] ys i x h lt is = absurd (omega (arith, lt))
  beside (a ∷ xs) [] i x h lt is = absurd h
  beside (a ∷ xs) (b ∷ ys) zero x h lt is = record { item = b; there = refl; within = omega arith; holds = subst (λ t. R t b) (sym is) h.0 }
  beside (a ∷ xs) (b ∷ ys) (suc i) x h lt is =
      let next = beside xs ys i x h.1 (omega (arith, lt)) is in
      record { item = next.item; there = next.there; within = omega (arith, next.within); holds = next.holds }
