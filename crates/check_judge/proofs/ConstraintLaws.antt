-- Constraints of AIRs that are checked.
use Rattle.std.proofs.Common.{◌≡◌, ◌↔◌, ◌∙◌, All, Bool, IsTrue, List, [], ◌∷◌, Option, None, Some, ap, get_or, map, refl, subst, sym}
use Rattle.std.proofs.lemmas.List.{map-id}
use Rattle.std.proofs.lemmas.List.Elements.{All-cons, All-head, All-nil, All-tail}
use Rattle.std.specs.List.{AllZip}
use Rattle.field.specs.Ring.{Ring}
use Rattle.list_laws.proofs.Each.{All-there}
use Rattle.list_laws.proofs.Items.{read_is}
use Rattle.list_laws.proofs.Zips.{AllZip-images}
use Rattle.air.specs.Traces.{window_of}
use Rattle.air_constraints.specs.Checked.{IsFirstFault}
use Rattle.air_constraints.specs.Hold.{HoldOn, value_at}
use Rattle.air_constraints.specs.declared.check.ConstraintFault.{ConstraintFault}
use Rattle.air_expressions.specs.declared.base_expression.SymbolicExpression.{SymbolicExpression}
use Rattle.check_judge.specs.Constraints.{AllHold, AreChecked, Constrained, IsChecked, IsFailure, over_constrained}
use Rattle.check_judge.specs.declared.airs.AirOver.{AirOver}
use Rattle.check_judge.specs.declared.constraints.ConstraintFailure.{ConstraintFailure}

module _ {F : Type 0} (R : Ring F) where
  -- the first fault, with the value of the constraint that is read at its number
  pub failure_there : (x : Constrained F) (fault : ConstraintFault) (e : SymbolicExpression F) (value : F) → IsFirstFault R x.traces x.constraints fault
      → e ≡ get_or x.constraints fault.constraint e → value ≡ value_at R (window_of x.traces fault.row) e
      → IsFailure R x (record { row = fault.row; constraint = fault.constraint; value = value })
  failure_there x fault e value first read is = record {
    first = first;
    value_is = is ∙ ap (value_at R (window_of x.traces fault.row)) (sym (read_is x.constraints fault.constraint e first.fails.constraint first.fails.is_there read));
  }

  -- what is found of AIRs is found of their constraints
  pub checked_over : (airs : List (AirOver F)) (found : List (Option (ConstraintFailure F))) → AllZip (λ air failure. IsChecked R (over_constrained air) failure) airs found → AreChecked R (map over_constrained airs) found
  checked_over airs found each =
      subst (AllZip (IsChecked R) (map over_constrained airs)) (map-id found) (AllZip-images (IsChecked R) over_constrained (λ failure. failure) airs found each)

  -- where nothing is found of any AIR, all constraints hold
  hold_if_none : (xs : List (Constrained F)) (found : List (Option (ConstraintFailure F))) → AreChecked R xs found → All (λ failure. failure ≡ None) found → AllHold R xs
  hold_if_none [] [] checked none = All-nil (λ (x : Constrained F). HoldOn R x.traces x.constraints)
  hold_if_none [] (f ∷ fs) checked none = absurd checked
  hold_if_none (x ∷ xs) [] checked none = absurd checked
  hold_if_none (x ∷ xs) (f ∷ fs) checked none =
      All-cons (λ (y : Constrained F). HoldOn R y.traces y.constraints) x xs (subst (IsChecked R x) (All-head (λ failure. failure ≡ None) f fs none) checked.0) (hold_if_none xs fs checked.1 (All-tail (λ failure. failure ≡ None) f fs none))

  -- where the constraints of an AIR hold, nothing is found of it
  nothing_found : (x : Constrained F) (found : Option (ConstraintFailure F)) → IsChecked R x found → HoldOn R x.traces x.constraints → found ≡ None
  nothing_found x None is hold = refl
  nothing_found x (Some failure) is hold =
      let fails = is.first.fails in
      absurd (fails.fails (All-there (λ c. value_at R (window_of x.traces failure.row) c ≡ R.zero) x.constraints failure.constraint fails.constraint (hold failure.row is.first.row_exists) fails.is_there))

  none_if_hold : (xs : List (Constrained F)) (found : List (Option (ConstraintFailure F))) → AreChecked R xs found → AllHold R xs → All (λ failure. failure ≡ None) found
  none_if_hold [] [] checked hold = All-nil (λ (failure : Option (ConstraintFailure F)). failure ≡ None)
  none_if_hold [] (f ∷ fs) checked hold = absurd checked
  none_if_hold (x ∷ xs) [] checked hold = absurd checked
  none_if_hold (x ∷ xs) (f ∷ fs) checked hold =
      All-cons (λ failure. failure ≡ None) f fs (nothing_found x f checked.0 (All-head (λ (y : Constrained F). HoldOn R y.traces y.constraints) x xs hold)) (none_if_hold xs fs checked.1 (All-tail (λ (y : Constrained F). HoldOn R y.traces y.constraints) x xs hold))

  -- nothing is found of any AIR exactly if all constraints hold
  pub hold_exactly : (xs : List (Constrained F)) (found : List (Option (ConstraintFailure F))) (hold : Bool) → AreChecked R xs found → IsTrue hold ↔ All (λ failure. failure ≡ None) found → IsTrue hold ↔ AllHold R xs
  hold_exactly xs found hold checked both = (λ t. hold_if_none xs found checked (both.0 t), λ h. both.1 (none_if_hold xs found checked h))
