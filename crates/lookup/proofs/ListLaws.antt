-- Lists in parts.
use Rattle.std.proofs.Common.{◌≡◌, ◌⊎◌, inl, inr, Bool, true, false, List, [], ◌∷◌, ◌++◌, map, refl, sym, ap, ◌∙◌, arith}
use Rattle.std.proofs.lemmas.Grind.{flat_map-append}
use Rattle.std.proofs.lemmas.List.{append-nil, append_assoc, map-append}
use Rattle.std.specs.List.{filter, flat_map}

-- a list with an item is not empty
pub none_behind : {A : Type 0} (xs : List A) (y : A) (ys : List A) → xs ++ y ∷ ys ≡ [] → ⊥
none_behind [] y ys e = cc e
none_behind (x ∷ xs) y ys e = cc e

module _ {A : Type 0} where
  -- an item of a list with one more at the end is that one, or stands before it
  pub snoc_split : (xs front back : List A) (x y : A) → xs ++ x ∷ [] ≡ front ++ y ∷ back → ((xs ≡ front) × (x ≡ y)) ⊎ ((rest : List A) × (xs ≡ front ++ y ∷ rest))
  snoc_split [] [] back x y e = inl (refl, cc e)
  snoc_split [] (f ∷ fs) back x y e = absurd (none_behind fs y back (cc e))
  snoc_split (a ∷ us) [] back x y e = inr (us, cc e)
  snoc_split (a ∷ us) (f ∷ fs) back x y e = elim (snoc_split us fs back x y (cc e)) [ inl h ↦ inl (cc (e, h.0), h.1) | inr h ↦ inr (h.0, cc (e, h.1)) ]

module _ {A B : Type 0} (f : A → B) (p : B → Bool) where
  -- one more item is kept, or left out
  pub kept_more : (done all : List B) (left later : List A) (x : A) → left ≡ x ∷ later → p (f x) ≡ true → done ++ filter p (map f left) ≡ all → (done ++ f x ∷ []) ++ filter p (map f later) ≡ all
  kept_more done all left later x next test e = grind (arith, append_assoc done (f x ∷ []) (filter p (map f later)), next, test, e)

  pub left_out : (done all : List B) (left later : List A) (x : A) → left ≡ x ∷ later → p (f x) ≡ false → done ++ filter p (map f left) ≡ all → done ++ filter p (map f later) ≡ all
  left_out done all left later x next test e = grind (arith, next, test, e)

  -- one more item is kept behind those that are
  pub kept_pushed : (done after : List A) (all : List B) (left later : List A) (x : A) → after ≡ done ++ x ∷ [] → left ≡ x ∷ later → p (f x) ≡ true → map f done ++ filter p (map f left) ≡ all → map f after ++ filter p (map f later) ≡ all
  kept_pushed done after all left later x pushed next test e =
      ap (λ t. t ++ filter p (map f later)) (ap (map f) pushed ∙ map-append f done (x ∷ [])) ∙ kept_more (map f done) all left later x next test e

-- the columns of one more cut behind those of others
pub columns_behind : {L O P : Type 0} (see : L → O) (make : P → O) (before : List O) (columns made after : List L) (cuts : List (List P)) (cut : List P) → after ≡ columns ++ made → map see columns ≡ before ++ flat_map (λ c. map make c) cuts → map see made ≡ map make cut
    → map see after ≡ before ++ flat_map (λ c. map make c) (cuts ++ cut ∷ [])
columns_behind see make before columns made after cuts cut is so_far here =
    ap (map see) is ∙ map-append see columns made ∙ (λ i. so_far i ++ here i)
    ∙ append_assoc before (flat_map (λ c. map make c) cuts) (map make cut)
    ∙ ap (λ t. before ++ t) (ap (λ t. flat_map (λ c. map make c) cuts ++ t) (sym (append-nil (map make cut))) ∙ sym (flat_map-append (λ c. map make c) cuts (cut ∷ [])))
