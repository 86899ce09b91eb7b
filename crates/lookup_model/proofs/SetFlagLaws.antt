-- The set flags of a row, flag by flag.
use Rattle.std.proofs.Common.{◌≡◌, ◌↔◌, ℕ, Bool, IsTrue, true, false, List, [], ◌∷◌, ◌++◌, length, sym, subst, ◌∙◌}
use Rattle.std.proofs.lemmas.Bool.{or_left, or_right}
use Rattle.std.proofs.lemmas.List.{append-nil}
use Rattle.field.specs.Ring.{IsDomain, Ring}
use Rattle.lookup_model.specs.Fault.{set_indices}
use Rattle.lookup_model.specs.Selection.{AreIndices, AreSetFlags}
use Rattle.lookup_model.specs.declared.flags.SetFlags.{SetFlags}
use Rattle.lookup_model.proofs.Lookups.Selections.{boolean-more, indices-more, set_is_one, zero_is_unset}

module _ {F : Type 0} (R : Ring F) (eq : F → F → Bool) (decides : (a b : F) → IsTrue (eq a b) ↔ (a ≡ b)) where
  abbrev is_one : F → Bool
  is_one f = eq f R.one

  -- one more flag that is zero
  pub zero_flag : IsDomain R → (fs : List F) (f : F) (set : SetFlags) → f ≡ R.zero → AreSetFlags R eq fs set → AreSetFlags R eq (fs ++ f ∷ []) set
  zero_flag domain fs f set e so_far = record {
    boolean = boolean-more R eq decides fs f (or_left (eq f R.zero) (eq f R.one) ((decides f R.zero).1 e)) so_far.boolean;
    indices = subst (AreIndices set) (sym (indices-more is_one fs f false (zero_is_unset R eq decides domain f e) ∙ append-nil (set_indices R eq 0 fs))) so_far.indices;
  }

  -- one more that is one
  pub one_flag : (fs : List F) (f : F) (set next : SetFlags) (index : ℕ) → length fs ≡ index → f ≡ R.one → ((indices : List ℕ) → AreIndices set indices → AreIndices next (indices ++ index ∷ [])) → AreSetFlags R eq fs set → AreSetFlags R eq (fs ++ f ∷ []) next
  one_flag fs f set next index at e further so_far = record {
    boolean = boolean-more R eq decides fs f (or_right (eq f R.zero) (eq f R.one) (set_is_one R eq decides f e)) so_far.boolean;
    indices = subst (AreIndices next) (sym (indices-more is_one fs f true (set_is_one R eq decides f e) ∙ (λ i. set_indices R eq 0 fs ++ at i ∷ []))) (further (set_indices R eq 0 fs) so_far.indices);
  }
