-- The set flags of a row, and the branches that they choose.
use Rattle.std.proofs.Common.{◌≡◌, ◌≢◌, ◌↔◌, ℕ, zero, suc, ◌+◌, ◌<◌, ◌≤◌, Bool, true, false, IsTrue, cond, ◌||◌, ◌&&◌, List, [], ◌∷◌, ◌++◌, length, map, get_or, refl, sym, ap, ◌∙◌, arith}
use Rattle.std.proofs.lemmas.Bool.{false_from_ne_true}
use Rattle.std.proofs.lemmas.List.{map-append}
use Rattle.std.proofs.lemmas.List.Elements.{filter-append}
use Rattle.std.proofs.lemmas.List.Folds.{list_all-append}
use Rattle.std.specs.List.{enumerate_from, filter, list_all, zip}
use Rattle.list_laws.proofs.Items.{enumerate_from-append}
use Rattle.field.specs.Ring.{IsDomain, Ring}
use Rattle.lookup_model.specs.Fault.{are_boolean, set_indices}
use Rattle.lookup_model.specs.Sent.{chosen_branches}

module _ {F : Type 0} (is_set : F → Bool) where
  -- the indices of the flags that pass a test, where the first flag has index n
  abbrev pub indices_that : ℕ → List F → List ℕ
  indices_that n fs = map (λ (p : ℕ × F). p.0) (filter (λ (p : ℕ × F). is_set p.1) (enumerate_from n fs))

  -- the indices of flags that go on
  indices-append : (n : ℕ) (xs ys : List F) → indices_that n (xs ++ ys) ≡ indices_that n xs ++ indices_that (n + length xs) ys
  indices-append n xs ys =
      let passes = λ (p : ℕ × F). is_set p.1 in
      ap (λ t. map (λ (p : ℕ × F). p.0) (filter passes t)) (enumerate_from-append n xs ys)
      ∙ ap (map (λ (p : ℕ × F). p.0)) (filter-append passes (enumerate_from n xs) (enumerate_from (n + length xs) ys))
      ∙ map-append (λ (p : ℕ × F). p.0) (filter passes (enumerate_from n xs)) (filter passes (enumerate_from (n + length xs) ys))

  -- the indices with that of one more flag
  pub indices-more : (fs : List F) (f : F) (t : Bool) → is_set f ≡ t → indices_that 0 (fs ++ f ∷ []) ≡ indices_that 0 fs ++ map (λ (q : ℕ × F). q.0) (cond t ((length fs, f) ∷ []) [])
  indices-more fs f t e =
      indices-append 0 fs (f ∷ []) ∙ (λ i. indices_that 0 fs ++ map (λ (q : ℕ × F). q.0) (cond (e i) ((zero_plus i, f) ∷ []) []))
    where
      zero_plus : 0 + length fs ≡ length fs
      zero_plus = omega arith

module _ {F : Type 0} (R : Ring F) (eq : F → F → Bool) where
  -- an index is not before the first one, and within the flags
  index_between : (n : ℕ) (fs : List F) (p : ℕ) (ps : List ℕ) → set_indices R eq n fs ≡ p ∷ ps → (n ≤ p) × (p < n + length fs)
  index_between n [] p ps e = absurd (cc e)
  index_between n (f ∷ fs) p ps e = by_test (eq f R.one) e (index_between (n + 1) fs p ps)
    where
      by_test : (b : Bool) → map (λ (q : ℕ × F). q.0) (cond b ((n, f) ∷ filter (λ q. eq q.1 R.one) (enumerate_from (n + 1) fs)) (filter (λ q. eq q.1 R.one) (enumerate_from (n + 1) fs))) ≡ p ∷ ps
          → (set_indices R eq (n + 1) fs ≡ p ∷ ps → (n + 1 ≤ p) × (p < n + 1 + length fs)) → (n ≤ p) × (p < n + suc (length fs))
      by_test true at later = let first : n ≡ p = cc at in (omega (arith, first), omega (arith, first))
      by_test false at later = let rest = later at in (omega (arith, rest.0), omega (arith, rest.1))

  pub indices_from : (n : ℕ) (fs : List F) (p : ℕ) (ps : List ℕ) → set_indices R eq n fs ≡ p ∷ ps → n ≤ p
  indices_from n fs p ps e = (index_between n fs p ps e).0

  pub index_within : (n : ℕ) (fs : List F) (p : ℕ) (ps : List ℕ) → set_indices R eq n fs ≡ p ∷ ps → p < n + length fs
  index_within n fs p ps e = (index_between n fs p ps e).1

  module _ {X : Type 0} where
    -- no more branches are chosen than flags are set
    pub chosen_few : (n : ℕ) (fs : List F) (bs : List X) → length (chosen_branches R eq fs bs) ≤ length (set_indices R eq n fs)
    chosen_few n [] bs = omega arith
    chosen_few n (f ∷ fs) [] = omega arith
    chosen_few n (f ∷ fs) (b ∷ bs) = by_test (eq f R.one) (chosen_few (n + 1) fs bs)
      where
        by_test : (t : Bool) → length (chosen_branches R eq fs bs) ≤ length (set_indices R eq (n + 1) fs) → length (map (λ (q : F × X). q.1) (cond t ((f, b) ∷ filter (λ q. eq q.0 R.one) (zip fs bs)) (filter (λ q. eq q.0 R.one) (zip fs bs))))
            ≤ length (map (λ (q : ℕ × F). q.0) (cond t ((n, f) ∷ filter (λ q. eq q.1 R.one) (enumerate_from (n + 1) fs)) (filter (λ q. eq q.1 R.one) (enumerate_from (n + 1) fs))))
        by_test true few = omega (arith, few)
        by_test false few = few

    -- where no flag is set none is chosen
    pub chosen_none : (n : ℕ) (fs : List F) (bs : List X) → set_indices R eq n fs ≡ [] → chosen_branches R eq fs bs ≡ []
    chosen_none n fs bs none = empty (chosen_branches R eq fs bs) (omega (arith, chosen_few n fs bs, ap length none))
      where
        empty : (xs : List X) → length xs ≤ 0 → xs ≡ []
        empty [] le = refl
        empty (x ∷ xs) le = absurd (omega (arith, le))

    -- where one is set, the branch at its index is chosen
    pub chosen_one : (n k : ℕ) (fs : List F) (bs : List X) (b : X) → set_indices R eq n fs ≡ (n + k) ∷ [] → k < length bs → b ≡ get_or bs k b → chosen_branches R eq fs bs ≡ b ∷ []
    chosen_one n k [] bs b one lt is = absurd (cc one)
    chosen_one n k (f ∷ fs) [] b one lt is = absurd (omega (arith, lt))
    chosen_one n zero (f ∷ fs) (x ∷ bs) b one lt is = by_test (eq f R.one) one
      where
        by_test : (t : Bool) → map (λ (q : ℕ × F). q.0) (cond t ((n, f) ∷ filter (λ q. eq q.1 R.one) (enumerate_from (n + 1) fs)) (filter (λ q. eq q.1 R.one) (enumerate_from (n + 1) fs))) ≡ (n + 0) ∷ []
            → map (λ (q : F × X). q.1) (cond t ((f, x) ∷ filter (λ q. eq q.0 R.one) (zip fs bs)) (filter (λ q. eq q.0 R.one) (zip fs bs))) ≡ b ∷ []
        by_test true at =
            let rest : set_indices R eq (n + 1) fs ≡ [] = cc at in λ i. sym is i ∷ chosen_none (n + 1) fs bs rest i
        by_test false at = absurd (omega (arith, indices_from (n + 1) fs (n + 0) [] at))
    chosen_one n (suc j) (f ∷ fs) (x ∷ bs) b one lt is = by_test (eq f R.one) one (λ (at : set_indices R eq (n + 1) fs ≡ (n + 1 + j) ∷ []). chosen_one (n + 1) j fs bs b at (omega (arith, lt)) is)
      where
        by_test : (t : Bool) → map (λ (q : ℕ × F). q.0) (cond t ((n, f) ∷ filter (λ q. eq q.1 R.one) (enumerate_from (n + 1) fs)) (filter (λ q. eq q.1 R.one) (enumerate_from (n + 1) fs))) ≡ (n + suc j) ∷ []
            → (set_indices R eq (n + 1) fs ≡ (n + 1 + j) ∷ [] → chosen_branches R eq fs bs ≡ b ∷ [])
            → map (λ (q : F × X). q.1) (cond t ((f, x) ∷ filter (λ q. eq q.0 R.one) (zip fs bs)) (filter (λ q. eq q.0 R.one) (zip fs bs))) ≡ b ∷ []
        by_test true at further = let first : n ≡ n + suc j = cc at in absurd (omega (arith, first))
        by_test false at further = further (at ∙ ap (λ p. p ∷ []) (omega arith))

module _ {F : Type 0} (R : Ring F) (eq : F → F → Bool) (decides : (a b : F) → IsTrue (eq a b) ↔ (a ≡ b)) where
  -- a set flag is one
  pub set_is_one : (f : F) → f ≡ R.one → eq f R.one ≡ true
  set_is_one f e = (decides f R.one).1 e

  -- a flag that is zero is not set
  pub zero_is_unset : IsDomain R → (f : F) → f ≡ R.zero → eq f R.one ≡ false
  zero_is_unset domain f e =
      false_from_ne_true (eq f R.one) (λ set. domain.zero_is_not_one (sym e ∙ (decides f R.one).0 set))

  -- one more flag that is zero or one keeps all of them so
  pub boolean-more : (fs : List F) (f : F) → (eq f R.zero || eq f R.one) ≡ true → are_boolean R eq fs ≡ true → are_boolean R eq (fs ++ f ∷ []) ≡ true
  boolean-more fs f is so_far =
      let passes = λ (g : F). eq g R.zero || eq g R.one in
      list_all-append passes fs (f ∷ []) ∙ (λ i. so_far i && (is i && true))

  -- a flag that is neither is found among all of them
  pub not_boolean : (fs rest : List F) (f : F) → f ≢ R.zero → f ≢ R.one → are_boolean R eq ((fs ++ f ∷ []) ++ rest) ≡ false
  not_boolean fs rest f not_zero not_one =
      let passes = λ (g : F). eq g R.zero || eq g R.one in
      list_all-append passes (fs ++ f ∷ []) rest
      ∙ ap (λ t. t && list_all passes rest) (list_all-append passes fs (f ∷ []) ∙ (λ i. list_all passes fs && ((unset R.zero not_zero i || unset R.one not_one i) && true)) ∙ no_end (list_all passes fs))
    where
      unset : (g : F) → f ≢ g → eq f g ≡ false
      unset g ne = false_from_ne_true (eq f g) (λ same. ne ((decides f g).0 same))

      no_end : (b : Bool) → (b && false) ≡ false
      no_end true = refl
      no_end false = refl
