-- Items by their keys, and a key that is looked for among them.
use Rattle.std.specs.Prelude.{◌≡◌, ◌≢◌, ◌<◌, ℕ, Bool, true, false, cond, List, [], ◌∷◌, Some, map, refl, slice_get, length, position}
use Rattle.std.proofs.Common.{◌∙◌, ap, sym, arith, zero, suc, is_some, true≢false, set, get_or, Decides, inl, inr, ◌⊎◌}
use Rattle.std.proofs.lemmas.List.Quantifiers.{position-Some}
use Rattle.std.proofs.lemmas.Map.Keys.{apart_from_distinct}
use Rattle.std.proofs.lemmas.Option.{slice_get_read, slice_get_within, get_or_from_slice_get}
use Rattle.std.specs.List.{IsDistinct}
use Rattle.std.specs.Map.{lookup}
use Rattle.list_laws.proofs.Items.{some_is}
use Rattle.lookup_messages.proofs.NetEntries.{turned}
use Rattle.lookup_debug.proofs.FirstMismatch.{three_ways}

module _ {K L B : Type 0} (kept : L → B) (f g : K → B) where
  agree : (xs : List K) → ((j : ℕ) (k : K) → slice_get xs j ≡ Some k → f k ≡ g k) → map f xs ≡ map g xs
  agree [] h = refl
  agree (x ∷ xs) h = λ i. h 0 x refl i ∷ agree xs (λ j k. h (suc j) k) i

  -- images that agree at all keys
  pub all_same : (ls : List L) (ks : List K) → ((j : ℕ) (k : K) → slice_get ks j ≡ Some k → f k ≡ g k) → map kept ls ≡ map f ks → map kept ls ≡ map g ks
  all_same ls ks same is = is ∙ agree ks same

  -- images that agree at all keys but one, whose item is changed
  pub one_changed : (ls : List L) (ks : List K) (i : ℕ) (l : L) (k : K) → slice_get ks i ≡ Some k → kept l ≡ g k
      → ((j : ℕ) (other : K) → slice_get ks j ≡ Some other → j ≢ i → f other ≡ g other)
      → map kept ls ≡ map f ks → map kept (set ls i l) ≡ map g ks
  one_changed [] [] i l k at now same is = refl
  one_changed [] (x ∷ ks) i l k at now same is = cc
  one_changed (y ∷ ls) [] i l k at now same is = cc
  one_changed (y ∷ ls) (x ∷ ks) zero l k at now same is =
      let rest : map kept ls ≡ map f ks = cc in
      let here : kept l ≡ g x = now ∙ ap g (sym (some_is x k at)) in
      λ j. here j ∷ all_same ls ks (λ m other there. same (suc m) other there (λ e. omega (arith, e))) rest j
  one_changed (y ∷ ls) (x ∷ ks) (suc i) l k at now same is =
      let rest : map kept ls ≡ map f ks = cc in
      let first : kept y ≡ f x = cc in
      let here : kept y ≡ g x = first ∙ same 0 x refl (λ e. omega (arith, e)) in
      λ j. here j ∷ one_changed ls ks i l k at now (λ m other there ne. same (suc m) other there (λ e. ne (omega (arith, e)))) rest j

-- keys that are seen through a view, and an item that is looked for among them
module _ {K A : Type 0} (same : A → A → Bool) (decides : (a b : A) → Decides (same a b) (a ≡ b)) (view : K → A) (x : A) where
  -- The key at which it is found is the item, and no other key is.
  pub found_alone : (ks : List K) → IsDistinct (λ a b. same (view a) (view b)) ks → (i : ℕ) → position (λ k. same x (view k)) ks ≡ Some i
      → (k : K) × (slice_get ks i ≡ Some k) × (x ≡ view k) × ((j : ℕ) (other : K) → slice_get ks j ≡ Some other → j ≢ i → same (view other) x ≡ false)
  found_alone [] distinct i at = cc
  found_alone (d ∷ rest) distinct i at =
      let found = position-Some (λ k. same x (view k)) (d ∷ rest) i d at in
      let is : x ≡ view (get_or (d ∷ rest) i d) = (decides x (view (get_or (d ∷ rest) i d))).0 found.1 in
      (get_or (d ∷ rest) i d, slice_get_read (d ∷ rest) (length (d ∷ rest)) i (get_or (d ∷ rest) i d) refl found.0 (sym (get_or_again (d ∷ rest) i d found.0)), is, λ j other there ne. by_order found.0 is found.2 j other there (slice_get_within (d ∷ rest) j other there) ne (three_ways j i))
    where
      get_or_again : (xs : List K) (n : ℕ) (e : K) → n < length xs → get_or xs n (get_or xs n e) ≡ get_or xs n e
      get_or_again [] n e lt = absurd (omega (arith, lt))
      get_or_again (y ∷ ys) zero e lt = refl
      get_or_again (y ∷ ys) (suc n) e lt = get_or_again ys n e (omega (arith, lt))

      by_order : i < length (d ∷ rest) → x ≡ view (get_or (d ∷ rest) i d) → ((n : ℕ) → n < i → same x (view (get_or (d ∷ rest) n d)) ≡ false)
          → (j : ℕ) (other : K) → slice_get (d ∷ rest) j ≡ Some other → j < length (d ∷ rest) → j ≢ i → (j < i) ⊎ ((j ≡ i) ⊎ (i < j)) → same (view other) x ≡ false
      by_order within is before j other there lt ne (inl sooner) =
          turned same decides (view other) x ∙ ap (λ k. same x (view k)) (sym (get_or_from_slice_get (d ∷ rest) j other d there)) ∙ before j sooner
      by_order within is before j other there lt ne (inr (inl equal)) = absurd (ne equal)
      by_order within is before j other there lt ne (inr (inr later)) =
          turned same decides (view other) x
          ∙ ap (λ k. same x (view k)) (sym (get_or_from_slice_get (d ∷ rest) j other d there))
          ∙ ap (λ y. same y (view (get_or (d ∷ rest) j d))) is
          ∙ apart_from_distinct (λ a b. same (view a) (view b)) (d ∷ rest) i j d distinct later lt

  -- where it is not found no key is it
  pub not_found : {V : Type 0} (es : List (K × V)) → is_some (lookup (λ k. same x (view k)) es) ≡ false
      → (j : ℕ) (other : K) → slice_get (map (λ e. e.0) es) j ≡ Some other → same (view other) x ≡ false
  not_found [] none j other there = cc
  not_found (e ∷ es) none j other there = by_test (not_found es) (same x (view e.0)) refl none j there
    where
      by_test : (is_some (lookup (λ k. same x (view k)) es) ≡ false → (n : ℕ) (k : K) → slice_get (map (λ p. p.0) es) n ≡ Some k → same (view k) x ≡ false)
          → (b : Bool) → same x (view e.0) ≡ b → is_some (cond b (Some e.1) (lookup (λ k. same x (view k)) es)) ≡ false
          → (n : ℕ) → slice_get (e.0 ∷ map (λ p. p.0) es) n ≡ Some other → same (view other) x ≡ false
      by_test rest true is h n at = absurd (true≢false h)
      by_test rest false is h zero at = turned same decides (view other) x ∙ ap (λ k. same x (view k)) (sym (some_is e.0 other at)) ∙ is
      by_test rest false is h (suc n) at = rest h n other at
