-- The set flags of a row, from those that are not zero.
use Rattle.std.proofs.Common.{◌≡◌, ◌≢◌, ◌↔◌, ℕ, zero, suc, ◌+◌, Bool, true, false, IsTrue, cond, not, Some, List, [], ◌∷◌, ◌++◌, length, map, refl, sym, ap, ◌∙◌, arith, ◌&&◌}
use Rattle.std.proofs.lemmas.Bool.{false_from_ne_true, or_left, or_right}
use Rattle.std.proofs.lemmas.List.{append-nil, length_push}
use Rattle.std.specs.List.{enumerate_from, filter, slice_get}
use Rattle.field.specs.Ring.{IsDomain, Ring}
use Rattle.lookup_model.specs.Fault.{are_boolean, set_indices}
use Rattle.lookup_model.proofs.Lookups.Selections.{indices-more, set_is_one, zero_is_unset}
use Rattle.lookup_model.specs.Selection.{AreSetFlags}
use Rattle.lookup_model.specs.declared.flags.SetFlags.TheVariants.{Nothing, One}
use Rattle.lookup_generation.specs.internal.Flags.{AreNonzero, nonzero_indices}

module _ {F : Type 0} (R : Ring F) (eq : F → F → Bool) (decides : (a b : F) → IsTrue (eq a b) ↔ (a ≡ b)) where
  abbrev is_nonzero : F → Bool
  is_nonzero f = not (eq f R.zero)

  -- a flag that is not zero
  tested : (f : F) → f ≢ R.zero → eq f R.zero ≡ false
  tested f ne = false_from_ne_true (eq f R.zero) (λ same. ne ((decides f R.zero).0 same))

  -- one more flag that is zero
  pub zero_more : (fs : List F) (f : F) (count last : ℕ) → f ≡ R.zero → AreNonzero R eq fs count last → AreNonzero R eq (fs ++ f ∷ []) count last
  zero_more fs f count last e so_far =
      let same = indices-more is_nonzero fs f false (ap not ((decides f R.zero).1 e)) ∙ append-nil (nonzero_indices R eq 0 fs) in
      record { many = so_far.many ∙ ap length (sym same); only = λ one. same ∙ so_far.only one }

  -- one more that is not
  pub nonzero_more : (fs : List F) (f : F) (count last index : ℕ) → length fs ≡ index → f ≢ R.zero → AreNonzero R eq fs count last → AreNonzero R eq (fs ++ f ∷ []) (count + 1) index
  nonzero_more fs f count last index at ne so_far =
      let before = nonzero_indices R eq 0 fs in
      let more : nonzero_indices R eq 0 (fs ++ f ∷ []) ≡ before ++ index ∷ [] = indices-more is_nonzero fs f true (ap not (tested f ne)) ∙ (λ i. before ++ at i ∷ []) in
      record {
        many = ap (λ n. n + 1) so_far.many ∙ sym (length_push before index) ∙ ap length (sym more);
        only = λ one. more ∙ ap (λ l. l ++ index ∷ []) (empty before (omega (arith, one, so_far.many)));
      }
    where
      empty : (ns : List ℕ) → length ns ≡ 0 → ns ≡ []
      empty [] e = refl
      empty (n ∷ ns) e = absurd (omega (arith, e))

  module _ (domain : IsDomain R) where
    -- a flag in front of others, by the test whether it is zero
    first_kept : (n : ℕ) (f : F) (fs : List F) (b : Bool) → eq f R.zero ≡ b → nonzero_indices R eq n (f ∷ fs) ≡ cond b (nonzero_indices R eq (n + 1) fs) (n ∷ nonzero_indices R eq (n + 1) fs)
    first_kept n f fs b e = ap (λ t. map (λ (p : ℕ × F). p.0) (cond (not t) ((n, f) ∷ filter (λ p. is_nonzero p.1) (enumerate_from (n + 1) fs)) (filter (λ p. is_nonzero p.1) (enumerate_from (n + 1) fs)))) e ∙ by_test b
      where
        by_test : (t : Bool) → map (λ (p : ℕ × F). p.0) (cond (not t) ((n, f) ∷ filter (λ p. is_nonzero p.1) (enumerate_from (n + 1) fs)) (filter (λ p. is_nonzero p.1) (enumerate_from (n + 1) fs)))
            ≡ cond t (nonzero_indices R eq (n + 1) fs) (n ∷ nonzero_indices R eq (n + 1) fs)
        by_test true = refl
        by_test false = refl

    -- a flag that is zero before others
    zero_first : (n : ℕ) (f : F) (fs : List F) (set : List ℕ) → f ≡ R.zero → (are_boolean R eq fs ≡ true) × (set_indices R eq (n + 1) fs ≡ set) → (are_boolean R eq (f ∷ fs) ≡ true) × (set_indices R eq n (f ∷ fs) ≡ set)
    zero_first n f fs set e later = (
      (λ i. or_left (eq f R.zero) (eq f R.one) ((decides f R.zero).1 e) i && later.0 i),
      ap (λ t. map (λ (p : ℕ × F). p.0) (cond t ((n, f) ∷ filter (λ p. eq p.1 R.one) (enumerate_from (n + 1) fs)) (filter (λ p. eq p.1 R.one) (enumerate_from (n + 1) fs)))) (zero_is_unset R eq decides domain f e) ∙ later.1,
    )

    -- one that is one
    one_first : (n : ℕ) (f : F) (fs : List F) → f ≡ R.one → (are_boolean R eq fs ≡ true) × (set_indices R eq (n + 1) fs ≡ []) → (are_boolean R eq (f ∷ fs) ≡ true) × (set_indices R eq n (f ∷ fs) ≡ n ∷ [])
    one_first n f fs e later = (
      (λ i. or_right (eq f R.zero) (eq f R.one) (set_is_one R eq decides f e) i && later.0 i),
      ap (λ t. map (λ (p : ℕ × F). p.0) (cond t ((n, f) ∷ filter (λ p. eq p.1 R.one) (enumerate_from (n + 1) fs)) (filter (λ p. eq p.1 R.one) (enumerate_from (n + 1) fs)))) (set_is_one R eq decides f e) ∙ ap (λ l. n ∷ l) later.1,
    )

    -- where each flag is zero, none is set
    none_nonzero : (n : ℕ) (fs : List F) → nonzero_indices R eq n fs ≡ [] → (are_boolean R eq fs ≡ true) × (set_indices R eq n fs ≡ [])
    none_nonzero n [] none = (refl, refl)
    none_nonzero n (f ∷ fs) none = by_test (eq f R.zero) refl (none_nonzero (n + 1) fs)
      where
        by_test : (b : Bool) → eq f R.zero ≡ b → (nonzero_indices R eq (n + 1) fs ≡ [] → (are_boolean R eq fs ≡ true) × (set_indices R eq (n + 1) fs ≡ [])) → (are_boolean R eq (f ∷ fs) ≡ true) × (set_indices R eq n (f ∷ fs) ≡ [])
        by_test true e later = zero_first n f fs [] ((decides f R.zero).0 e) (later (sym (first_kept n f fs true e) ∙ none))
        by_test false e later = absurd (cc (sym (first_kept n f fs false e) ∙ none))

    -- where one alone is not zero, and it is one, it is set
    one_nonzero : (n k : ℕ) (fs : List F) (x : F) → nonzero_indices R eq n fs ≡ (n + k) ∷ [] → slice_get fs k ≡ Some x → x ≡ R.one → (are_boolean R eq fs ≡ true) × (set_indices R eq n fs ≡ (n + k) ∷ [])
    one_nonzero n k [] x only there is = absurd (cc only)
    one_nonzero n zero (f ∷ fs) x only there is =
        let here : f ≡ R.one = cc there ∙ is in
        let unset = tested f (λ e. domain.zero_is_not_one (sym e ∙ here)) in
        let rest : nonzero_indices R eq (n + 1) fs ≡ [] = cc (sym (first_kept n f fs false unset) ∙ only) in
        let first = one_first n f fs here (none_nonzero (n + 1) fs rest) in
        let at : n ≡ n + 0 = omega arith in
        (first.0, first.1 ∙ ap (λ m. m ∷ []) at)
    one_nonzero n (suc j) (f ∷ fs) x only there is = by_test (eq f R.zero) refl (λ later. one_nonzero (n + 1) j fs x later there is)
      where
        by_test : (b : Bool) → eq f R.zero ≡ b → (nonzero_indices R eq (n + 1) fs ≡ (n + 1 + j) ∷ [] → (are_boolean R eq fs ≡ true) × (set_indices R eq (n + 1) fs ≡ (n + 1 + j) ∷ []))
            → (are_boolean R eq (f ∷ fs) ≡ true) × (set_indices R eq n (f ∷ fs) ≡ (n + suc j) ∷ [])
        by_test true e later =
            let at : n + suc j ≡ n + 1 + j = omega arith in
            let set = later (sym (first_kept n f fs true e) ∙ only ∙ ap (λ m. m ∷ []) at) in
            zero_first n f fs ((n + suc j) ∷ []) ((decides f R.zero).0 e) (set.0, set.1 ∙ ap (λ m. m ∷ []) (sym at))
        by_test false e later =
            let first : n ≡ n + suc j = cc (sym (first_kept n f fs false e) ∙ only) in
            absurd (omega (arith, first))

    -- no flag is set where none is not zero
    pub no_flag : (fs : List F) (last : ℕ) → AreNonzero R eq fs 0 last → AreSetFlags R eq fs Nothing
    no_flag fs last are = let none = none_nonzero 0 fs (empty (nonzero_indices R eq 0 fs) (sym are.many)) in record { boolean = none.0; indices = none.1 }
      where
        empty : (ns : List ℕ) → length ns ≡ 0 → ns ≡ []
        empty [] e = refl
        empty (n ∷ ns) e = absurd (omega (arith, e))

    -- the only flag that is not zero is set if it is one
    pub only_flag : (fs : List F) (last : ℕ) (x : F) → AreNonzero R eq fs 1 last → slice_get fs last ≡ Some x → x ≡ R.one → AreSetFlags R eq fs (One last)
    only_flag fs last x are there is =
        let at : last ≡ 0 + last = omega arith in
        let set = one_nonzero 0 last fs x (are.only refl ∙ ap (λ m. m ∷ []) at) there is in
        record { boolean = set.0; indices = set.1 ∙ ap (λ m. m ∷ []) (sym at) }
