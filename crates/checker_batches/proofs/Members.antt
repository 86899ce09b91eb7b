-- The images of items, and the entry that a look-up finds.
use Rattle.std.proofs.Common.{◌≡◌, zero, suc, Bool, true, cond, Some, List, [], ◌∷◌, map, ap, ◌∙◌, arith}
use Rattle.std.proofs.lemmas.Bool.{cond_both}
use Rattle.std.proofs.lemmas.List.{get_or-map, length-map}
use Rattle.std.specs.List.{AllByRecursion, Contains}
use Rattle.std.specs.Map.{lookup}

module _ {A B : Type 0} where
  -- an item of a list has its image in the list of images
  pub in_image : (f : A → B) (xs : List A) (x : A) → Contains xs x → Contains (map f xs) (f x)
  in_image f xs x (k, lt, is) = (k, omega (arith, lt, length-map xs f), get_or-map f xs k x (f x) lt ∙ ap f is)

  -- where all entries whose keys pass have one value, a look-up finds it if there is one
  pub lookup_found : (test : A → Bool) (es : List (A × B)) (k : A) (v : B) → Contains es (k, v) → test k ≡ true → AllByRecursion (λ e. test e.0 ≡ true → e.1 ≡ v) es → lookup test es ≡ Some v
  lookup_found test [] k v (i, lt, is) passes all = absurd (omega (arith, lt))
  lookup_found test (e ∷ es) k v (zero, lt, is) passes all =
      let here : test e.0 ≡ true = ap (λ (p : A × B). test p.0) is ∙ passes in
      ap (λ b. cond b (Some e.1) (lookup test es)) here ∙ ap Some (all.0 here)
  lookup_found test (e ∷ es) k v (suc i, lt, is) passes all =
      cond_both (test e.0) (Some e.1) (lookup test es) (λ o. o ≡ Some v) (λ first. ap Some (all.0 first)) (λ other. lookup_found test es k v (i, omega (arith, lt), is) passes all.1)
