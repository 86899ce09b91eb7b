-- Products of cells.
use Rattle.std.proofs.Common.{◌≡◌, inl, inr, ℕ, zero, suc, ◌+◌, ◌-◌, ◌<◌, List, subst, [], ◌∷◌, ◌++◌, length, map, take, drop, get_or, refl, sym, ap, ap₂, ◌∙◌, arith}
use Rattle.std.proofs.lemmas.List.{map_push, take-append-drop}
use Rattle.std.proofs.lemmas.List.Elements.{All-take}
use Rattle.std.specs.List.{insert}
use Rattle.list_laws.proofs.Items.{take_item}
use Rattle.field.specs.Ring.{Ring, IsCommutativeRing}
use Rattle.field.specs.laws.RingFacts.{mul_left_comm, mul_zero, zero_mul, one_mul}
use Rattle.air_expressions.specs.Meaning.{variable_value}
use Rattle.air_expressions.specs.Window.{Window}
use Rattle.air_expressions.specs.declared.variable.SymbolicVariable.{SymbolicVariable}
use Rattle.air_constraints.specs.Facts.{AreApart, AreApartFrom, IsBit}
use Rattle.air_constraints.specs.Polynomials.{product_at}

-- the item at an index, whatever stands in for a missing one
pub item_is : {A : Type 0} (xs : List A) (i : ℕ) (d : A) → i < length xs → get_or xs i d ≡ get_or xs i (get_or xs i d)
item_is [] i d lt = absurd (omega (arith, lt))
item_is (x ∷ xs) zero d lt = refl
item_is (x ∷ xs) (suc i) d lt = item_is xs i d (omega (arith, lt))

pub item_same : {A : Type 0} (xs : List A) (i : ℕ) (d e : A) → i < length xs → get_or xs i d ≡ get_or xs i e
item_same [] i d e lt = absurd (omega (arith, lt))
item_same (x ∷ xs) zero d e lt = refl
item_same (x ∷ xs) (suc i) d e lt = item_same xs i d e (omega (arith, lt))

module _ {F : Type 0} {R : Ring F} (laws : IsCommutativeRing R) (w : Window F) where
  -- a bit is its own square
  pub bit_squared : (a : F) → IsBit R a → R.mul a a ≡ a
  bit_squared a (inl z) = ap (R.mul a) z ∙ mul_zero laws a ∙ sym z
  bit_squared a (inr o) = ap (R.mul a) o ∙ laws.mul_one a

  -- one more cell, anywhere
  pub product-insert : (vs : List (SymbolicVariable F)) (i : ℕ) (v : SymbolicVariable F) → product_at R w (insert vs i v) ≡ R.mul (variable_value R w v) (product_at R w vs)
  product-insert [] zero v = refl
  product-insert [] (suc i) v = refl
  product-insert (x ∷ vs) zero v = refl
  product-insert (x ∷ vs) (suc i) v =
      ap (R.mul (variable_value R w x)) (product-insert vs i v) ∙ mul_left_comm laws (variable_value R w x) (variable_value R w v) (product_at R w vs)

  -- one more cell, at the end
  pub product-push : (vs : List (SymbolicVariable F)) (v : SymbolicVariable F) → product_at R w (vs ++ v ∷ []) ≡ R.mul (variable_value R w v) (product_at R w vs)
  product-push [] v = refl
  product-push (x ∷ vs) v =
      ap (R.mul (variable_value R w x)) (product-push vs v) ∙ mul_left_comm laws (variable_value R w x) (variable_value R w v) (product_at R w vs)

  -- the product of two lists
  pub product-append : (us vs : List (SymbolicVariable F)) → product_at R w (us ++ vs) ≡ R.mul (product_at R w us) (product_at R w vs)
  product-append [] vs = sym (one_mul laws (product_at R w vs))
  product-append (x ∷ us) vs =
      ap (R.mul (variable_value R w x)) (product-append us vs) ∙ sym (laws.mul_assoc (variable_value R w x) (product_at R w us) (product_at R w vs))

  -- a bit that is there already changes nothing
  pub product-again : (vs : List (SymbolicVariable F)) (i : ℕ) (x v : SymbolicVariable F) → i < length vs → x ≡ get_or vs i x → variable_value R w x ≡ variable_value R w v → IsBit R (variable_value R w v)
      → product_at R w vs ≡ R.mul (variable_value R w v) (product_at R w vs)
  product-again [] i x v lt is same bit = absurd (omega (arith, lt))
  product-again (y ∷ vs) zero x v lt is same bit =
      let a = variable_value R w v in
      let here : variable_value R w y ≡ a = sym (ap (variable_value R w) is) ∙ same in
      ap (λ t. R.mul t (product_at R w vs)) (here ∙ sym (bit_squared a bit)) ∙ laws.mul_assoc a a (product_at R w vs) ∙ ap (λ t. R.mul a (R.mul t (product_at R w vs))) (sym here)
  product-again (y ∷ vs) (suc i) x v lt is same bit =
      ap (R.mul (variable_value R w y)) (product-again vs i x v (omega (arith, lt)) is same bit) ∙ mul_left_comm laws (variable_value R w y) (variable_value R w v) (product_at R w vs)

  -- the product of equal values
  pub product-same : (xs ys : List (SymbolicVariable F)) → map (variable_value R w) xs ≡ map (variable_value R w) ys → product_at R w xs ≡ product_at R w ys
  product-same [] [] e = refl
  product-same [] (y ∷ ys) e = absurd (cc e)
  product-same (x ∷ xs) [] e = absurd (cc e)
  product-same (x ∷ xs) (y ∷ ys) e =
      let here : variable_value R w x ≡ variable_value R w y = cc e in
      let there : map (variable_value R w) xs ≡ map (variable_value R w) ys = cc e in
      ap₂ R.mul here (product-same xs ys there)

  -- the values of one item more
  pub values-more : (xs ys : List (SymbolicVariable F)) (i : ℕ) (x y : SymbolicVariable F) → i < length xs → i < length ys → x ≡ get_or xs i x → y ≡ get_or ys i y → variable_value R w x ≡ variable_value R w y
      → map (variable_value R w) (take i xs) ≡ map (variable_value R w) (take i ys) → map (variable_value R w) (take (i + 1) xs) ≡ map (variable_value R w) (take (i + 1) ys)
  values-more xs ys i x y ltx lty isx isy same so_far =
      let f = variable_value R w in
      ap (map f) (take_item xs i x ltx isx) ∙ map_push f (take i xs) x ∙ (λ j. so_far j ++ same j ∷ []) ∙ sym (map_push f (take i ys) y) ∙ sym (ap (map f) (take_item ys i y lty isy))

  -- the product with one item more of the second list
  pub product-more : (p : F) (xs : List (SymbolicVariable F)) (i : ℕ) (x : SymbolicVariable F) (before after : F) → i < length xs → x ≡ get_or xs i x
      → before ≡ R.mul p (product_at R w (take i xs)) → after ≡ R.mul (variable_value R w x) before → after ≡ R.mul p (product_at R w (take (i + 1) xs))
  product-more p xs i x before after lt is so_far step =
      step ∙ ap (R.mul (variable_value R w x)) so_far ∙ mul_left_comm laws (variable_value R w x) p (product_at R w (take i xs))
      ∙ ap (R.mul p) (sym (product-push (take i xs) x) ∙ sym (ap (product_at R w) (take_item xs i x lt is)))

  -- a product with an item that is zero times something
  pub product-apart : (a : F) (vs : List (SymbolicVariable F)) (i : ℕ) (v : SymbolicVariable F) → i < length vs → v ≡ get_or vs i v
      → R.mul a (variable_value R w v) ≡ R.zero → R.mul a (product_at R w vs) ≡ R.zero
  product-apart a [] i v lt is none = absurd (omega (arith, lt))
  product-apart a (y ∷ vs) zero v lt is none =
      sym (laws.mul_assoc a (variable_value R w y) (product_at R w vs))
      ∙ ap (λ t. R.mul t (product_at R w vs)) (ap (λ (u : SymbolicVariable F). R.mul a (variable_value R w u)) (sym is) ∙ none)
      ∙ zero_mul laws (product_at R w vs)
  product-apart a (y ∷ vs) (suc i) v lt is none =
      mul_left_comm laws a (variable_value R w y) (product_at R w vs)
      ∙ ap (R.mul (variable_value R w y)) (product-apart a vs i v (omega (arith, lt)) is none)
      ∙ mul_zero laws (variable_value R w y)

  -- one cell of a list any two of which have the product zero is apart from those after it
  pub apart-after-suc : (vs : List (SymbolicVariable F)) (i : ℕ) (v : SymbolicVariable F) → i < length vs → v ≡ get_or vs i v
      → AreApart R w vs → AreApartFrom R w (variable_value R w v) (drop (suc i) vs)
  apart-after-suc [] i v lt is apart = absurd (omega (arith, lt))
  apart-after-suc (y ∷ vs) zero v lt is apart =
      let P : SymbolicVariable F → Type 0 = λ u. AreApartFrom R w (variable_value R w u) vs in
      subst P (sym is) apart.0
  apart-after-suc (y ∷ vs) (suc i) v lt is apart = apart-after-suc vs i v (omega (arith, lt)) is apart.1

  pub apart-after : (vs : List (SymbolicVariable F)) (i : ℕ) (v : SymbolicVariable F) → i < length vs → v ≡ get_or vs i v
      → AreApart R w vs → AreApartFrom R w (variable_value R w v) (take (length vs - (i + 1)) (drop (i + 1) vs))
  apart-after vs i v lt is apart =
      let P : ℕ → Type 0 = λ n. AreApartFrom R w (variable_value R w v) (drop n vs) in
      let e : suc i ≡ i + 1 = omega arith in
      All-take (λ u. R.mul (variable_value R w v) (variable_value R w u) ≡ R.zero) (length vs - (i + 1)) (drop (i + 1) vs) (subst P e (apart-after-suc vs i v lt is apart))

  -- two products, one of which has all of the other, with one cell more on either side
  pub part-more : (cells part : List (SymbolicVariable F)) (i j : ℕ) (v u : SymbolicVariable F) → i < length cells → v ≡ get_or cells i v → j < length part → u ≡ get_or part j u
      → variable_value R w u ≡ variable_value R w v
      → (x : F) × (product_at R w (take i cells) ≡ R.mul x (product_at R w (take j part)))
      → (x : F) × (product_at R w (take (i + 1) cells) ≡ R.mul x (product_at R w (take (j + 1) part)))
  part-more cells part i j v u lt is ltj isj same so_far =
      let a = variable_value R w v in
      let p = product_at R w (take j part) in (
        so_far.0,
        ap (product_at R w) (take_item cells i v lt is) ∙ product-push (take i cells) v ∙ ap (R.mul a) so_far.1
            ∙ mul_left_comm laws a so_far.0 p
            ∙ ap (R.mul so_far.0) (ap (λ y. R.mul y p) (sym same) ∙ sym (product-push (take j part) u) ∙ sym (ap (product_at R w) (take_item part j u ltj isj))),
      )

  -- a product with one cell more is a multiple
  pub product-next : (cells : List (SymbolicVariable F)) (i : ℕ) → i < length cells → (a : F) × (product_at R w (take (suc i) cells) ≡ R.mul a (product_at R w (take i cells)))
  product-next [] i lt = absurd (omega (arith, lt))
  product-next (x ∷ cells) zero lt = (variable_value R w x, refl)
  product-next (x ∷ cells) (suc i) lt =
      let next = product-next cells i (omega (arith, lt)) in
      (next.0, ap (R.mul (variable_value R w x)) next.1 ∙ mul_left_comm laws (variable_value R w x) next.0 (product_at R w (take i cells)))

  -- the same of two products with one cell more of the greater one alone
  pub whole-more : (cells : List (SymbolicVariable F)) (i : ℕ) (p : F) → i < length cells
      → (x : F) × (product_at R w (take i cells) ≡ R.mul x p)
      → (x : F) × (product_at R w (take (i + 1) cells) ≡ R.mul x p)
  whole-more cells i p lt so_far =
      let next = product-next cells i lt in
      let e : i + 1 ≡ suc i = omega arith in (
        R.mul next.0 so_far.0,
        ap (λ n. product_at R w (take n cells)) e ∙ next.1 ∙ ap (R.mul next.0) so_far.1 ∙ sym (laws.mul_assoc next.0 so_far.0 p),
      )

  -- a product of bits is one
  pub bits-more : (cells : List (SymbolicVariable F)) (i : ℕ) (v : SymbolicVariable F) → i < length cells → v ≡ get_or cells i v
      → IsBit R (variable_value R w v) → IsBit R (product_at R w (take i cells)) → IsBit R (product_at R w (take (i + 1) cells))
  bits-more cells i v lt is bit so_far =
      let P : F → Type 0 = IsBit R in
      let e = ap (product_at R w) (take_item cells i v lt is) ∙ product-push (take i cells) v in
      subst P (sym e) (times bit)
    where
      times : IsBit R (variable_value R w v) → IsBit R (R.mul (variable_value R w v) (product_at R w (take i cells)))
      times (inl z) = inl (ap (λ t. R.mul t (product_at R w (take i cells))) z ∙ zero_mul laws (product_at R w (take i cells)))
      times (inr o) =
          let Q : F → Type 0 = IsBit R in
          subst Q (sym (ap (λ t. R.mul t (product_at R w (take i cells))) o ∙ one_mul laws (product_at R w (take i cells)))) so_far

  -- the product of two lists, an item of the second of which is zero times the first
  pub product-none : (p q : F) (bs : List (SymbolicVariable F)) (i : ℕ) (v : SymbolicVariable F) → R.mul (variable_value R w v) q ≡ R.zero → i < length bs → v ≡ get_or bs i v
      → q ≡ R.mul p (product_at R w (take i bs)) → R.mul p (product_at R w bs) ≡ R.zero
  product-none p q bs i v none lt is so_far =
      let x = variable_value R w v in
      let rest = product_at R w (drop (i + 1) bs) in
      let front : product_at R w (take (i + 1) bs) ≡ R.mul x (product_at R w (take i bs)) = ap (product_at R w) (take_item bs i v lt is) ∙ product-push (take i bs) v in
      ap (R.mul p) (sym (ap (product_at R w) (take-append-drop (i + 1) bs)) ∙ product-append (take (i + 1) bs) (drop (i + 1) bs) ∙ ap (λ t. R.mul t rest) front)
      ∙ sym (laws.mul_assoc p (R.mul x (product_at R w (take i bs))) rest)
      ∙ ap (λ t. R.mul t rest) (mul_left_comm laws p x (product_at R w (take i bs)) ∙ ap (R.mul x) (sym so_far) ∙ none)
      ∙ zero_mul laws rest
