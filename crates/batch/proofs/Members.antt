-- The items of a list: those of images, of parts and of what is kept.
use Rattle.std.proofs.Common.{◌≡◌, ◌⊎◌, ◌+◌, ◌<◌, Bool, true, false, cond, inl, inr, Option, None, Some, List, [], ◌∷◌, length, map, take, drop, get_or, sym, ap, subst, subst₂, ◌∙◌, arith}
use Rattle.std.proofs.lemmas.Bool.{cases_order}
use Rattle.std.proofs.lemmas.List.{get_or-map, get_or_default, length-map}
use Rattle.std.proofs.lemmas.List.Elements.{Contains-append_left, Contains-append_right}
use Rattle.std.specs.List.{AllByRecursion, AllPairs, AllZip, Contains, cons_option, filter, filter_map, flat_map}
use Rattle.list_laws.proofs.Items.{item_at}
use Rattle.list_laws.proofs.Parts.{flat_split}

module _ {A : Type 0} where
  -- of a relation that holds of each item and each later one: two items are one, or it holds one way
  pub members : (R : A → A → Type 0) (xs : List A) → AllPairs R xs → (x y : A) → Contains xs x → Contains xs y → (x ≡ y) ⊎ (R x y ⊎ R y x)
  members R xs pairs x y (i, i_in, x_is) (j, j_in, y_is) =
      let y_at : get_or xs j x ≡ y = get_or_default xs j x y j_in ∙ y_is in
      elim (cases_order i j) [
        | inl same ↦ inl (sym x_is ∙ ap (λ k. get_or xs k x) same ∙ y_at)
        | inr (inl before) ↦ inr (inl (subst₂ R x_is y_at (pairs i j x before j_in)))
        | inr (inr after) ↦ inr (inr (subst₂ R y_at x_is (pairs j i x after i_in)))
      ]

  -- what holds of the items that are kept
  pub of_kept : (P : A → Type 0) (p : A → Bool) (xs : List A) → AllByRecursion P (filter p xs) → AllByRecursion (λ x. p x ≡ true → P x) xs
  of_kept P p [] all = tt
  of_kept P p (x ∷ xs) all =
      (elim (p x) as (λ b. AllByRecursion P (cond b (x ∷ filter p xs) (filter p xs)) → (b ≡ true → P x) × AllByRecursion (λ y. p y ≡ true → P y) xs) [
        | true ↦ λ is. ((λ e. is.0), of_kept P p xs is.1)
        | false ↦ λ is. ((λ e. absurd cc), of_kept P p xs is)
      ]) all

module _ {A B : Type 0} where
  -- the item of an image
  pub from_image : (f : A → B) (xs : List A) (y : B) → Contains (map f xs) y → (x : A) × Contains xs x × (f x ≡ y)
  from_image f xs y (k, lt, is) =
      let within : k < length xs = omega (arith, lt, length-map xs f) in
      let (x, x_is) = item_at xs k within in
      (x, (k, within, sym x_is), ap f x_is ∙ sym (get_or-map f xs k x y within) ∙ is)

  -- an item of a part
  pub in_part : (f : A → List B) (xs : List A) (x : A) (y : B) → Contains xs x → Contains (f x) y → Contains (flat_map f xs) y
  in_part f xs x y (k, lt, is) there =
      subst (λ (ys : List B). Contains ys y) (sym (flat_split f xs k x lt (sym is)))
      (Contains-append_right (flat_map f (take k xs)) _ y (Contains-append_left (f x) (flat_map f (drop (k + 1) xs)) y there))

  -- what holds of the items that are found
  pub of_found : (P : B → Type 0) (h : A → Option B) (xs : List A) → AllByRecursion P (filter_map h xs) → AllByRecursion (λ x. (y : B) → h x ≡ Some y → P y) xs
  of_found P h [] all = tt
  of_found P h (x ∷ xs) all =
      (elim (h x) as (λ o. AllByRecursion P (cons_option o (filter_map h xs)) → ((y : B) → o ≡ Some y → P y) × AllByRecursion (λ z. (y : B) → h z ≡ Some y → P y) xs) [
        | None ↦ λ is. ((λ y e. absurd cc), of_found P h xs is)
        | Some z ↦ λ is. ((λ y e. let same : z ≡ y = cc in subst P same is.0), of_found P h xs is.1)
      ]) all

  -- items with the same images
  pub same_images : {C : Type 0} (f : A → C) (g : B → C) (xs : List A) (ys : List B) → map f xs ≡ map g ys → AllZip (λ x y. f x ≡ g y) xs ys
  same_images f g [] [] e = tt
  same_images f g (x ∷ xs) (y ∷ ys) e = (cc, same_images f g xs ys cc)
  same_images f g xs ys e = absurd cc
