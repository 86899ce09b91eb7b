-- The keys that are first seen, message by message.
use Rattle.std.proofs.Common.{◌≡◌, Bool, true, false, cond, not, ◌||◌, List, [], ◌∷◌, ◌++◌, refl, ap, ◌∙◌, Decides}
use Rattle.std.proofs.lemmas.List.{append-nil}
use Rattle.std.specs.List.{filter, list_any}
use Rattle.lookup_model.specs.Net.{first_seen}
use Rattle.std.proofs.lemmas.List.Elements.{filter-append}

module _ {A : Type 0} (same : A → A → Bool) (decides : (a b : A) → Decides (same a b) (a ≡ b)) where
  -- an item that was seen changes nothing, and another one goes last
  pub first_seen-push : (xs : List A) (x : A) → first_seen same (xs ++ x ∷ []) ≡ cond (list_any (λ y. same y x) xs) (first_seen same xs) (first_seen same xs ++ x ∷ [])
  first_seen-push [] x = refl
  first_seen-push (y ∷ ys) x = ap (λ t. y ∷ filter (λ z. not (same y z)) t) (first_seen-push ys x) ∙ by_tests (same y x) refl (list_any (λ z. same z x) ys)
    where
      keep : A → Bool
      keep z = not (same y z)

      by_tests : (b : Bool) → same y x ≡ b → (d : Bool) → y ∷ filter keep (cond d (first_seen same ys) (first_seen same ys ++ x ∷ [])) ≡ cond (b || d) (y ∷ filter keep (first_seen same ys)) (y ∷ filter keep (first_seen same ys) ++ x ∷ [])
      by_tests true e true = refl
      by_tests false e true = refl
      by_tests true e false = ap (λ t. y ∷ t) (filter-append keep (first_seen same ys) (x ∷ []) ∙ ap (λ b. filter keep (first_seen same ys) ++ cond (not b) (x ∷ []) []) e ∙ append-nil (filter keep (first_seen same ys)))
      by_tests false e false = ap (λ t. y ∷ t) (filter-append keep (first_seen same ys) (x ∷ []) ∙ ap (λ b. filter keep (first_seen same ys) ++ cond (not b) (x ∷ []) []) e)
