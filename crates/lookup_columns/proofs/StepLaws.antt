-- The steps of a tree: each leaf is one of the tree's, and working them out fills one slot.
use Rattle.std.proofs.Common.{◌≡◌, ◌∷◌, ◌++◌, ℕ, List, [], All, ap, sym, subst, refl, ◌∙◌}
use Rattle.std.proofs.lemmas.List.Elements.{All-append, All-cons, All-head, All-nil, All-tail}
use Rattle.std.specs.List.{AllZip}
use Rattle.std.specs.declared.alloc.Global.{Global}
use Rattle.std.specs.declared.vec.Vec.{Vec}
use Rattle.list_laws.proofs.Zips.{zip_of_maps}
use Rattle.list_laws.proofs.Images.{map-map}
use Rattle.field.specs.Ring.{Ring, sub_in}
use Rattle.air_expressions.specs.Layout.{Fits}
use Rattle.air_expressions.specs.Meaning.{value_of}
use Rattle.air_expressions.specs.Tree.{Tree, leaf, add, sub, mul, neg, tree_of}
use Rattle.air_expressions.specs.Window.{Window}
use Rattle.air_expressions.specs.declared.base_expression.SymbolicExpression.{SymbolicExpression}
use Rattle.air_expressions.specs.declared.layout.AirLayout.{AirLayout}
use Rattle.lookup_columns.specs.Columns.{column}
use Rattle.lookup_columns.specs.Steps.{AreStepsOf, StepFits, StepsFit, steps_in_order}
use Rattle.lookup_columns.specs.declared.step.Step.{Step}
use Rattle.lookup_columns.specs.declared.step.Step.TheVariants.{Leaf, Add, Sub, Mul, Neg}
use Rattle.lookup_columns.specs.internal.Slots.{slots_after_step}
use Rattle.lookup_model.specs.Records.{AllFit}

module _ {F : Type 0} where
  -- one more step that has no leaf
  fits_with : (layout : AirLayout) (s : Step F) (xs : List (Step F)) → StepFits layout s → All (StepFits layout) xs → All (StepFits layout) (xs ++ s ∷ [])
  fits_with layout s xs fits all = All-append (StepFits layout) xs (s ∷ []) all (All-cons (StepFits layout) s [] fits (All-nil (StepFits layout)))

  fit_both : (layout : AirLayout) (s : Step F) (xs ys : List (Step F)) → StepFits layout s → All (StepFits layout) xs → All (StepFits layout) ys → All (StepFits layout) (xs ++ ys ++ s ∷ [])
  fit_both layout s xs ys fits all more = fits_with layout s (xs ++ ys) fits (All-append (StepFits layout) xs ys all more)

  -- the steps of a tree fit where the tree does
  pub steps_fit : (layout : AirLayout) (t : Tree F) → Fits layout t → All (StepFits layout) (steps_in_order t)
  steps_fit layout (leaf l) fits = All-cons (StepFits layout) (Leaf l) [] fits (All-nil (StepFits layout))
  steps_fit layout (add a b) fits = fit_both layout Add (steps_in_order a) (steps_in_order b) tt (steps_fit layout a fits.0) (steps_fit layout b fits.1)
  steps_fit layout (sub a b) fits = fit_both layout Sub (steps_in_order a) (steps_in_order b) tt (steps_fit layout a fits.0) (steps_fit layout b fits.1)
  steps_fit layout (mul a b) fits = fit_both layout Mul (steps_in_order a) (steps_in_order b) tt (steps_fit layout a fits.0) (steps_fit layout b fits.1)
  steps_fit layout (neg a) fits = fits_with layout Neg (steps_in_order a) tt (steps_fit layout a fits)

  -- and so do those of an expression
  pub expression_steps_fit : (layout : AirLayout) (v : Vec (Step F) Global) (e : SymbolicExpression F) → AreStepsOf v e → Fits layout (tree_of e) → StepsFit layout v
  expression_steps_fit layout v e are fits = subst (All (StepFits layout)) (sym are) (steps_fit layout (tree_of e) fits)

  -- and of each expression of a list
  pub all_steps_fit : (layout : AirLayout) (vs : List (Vec (Step F) Global)) (es : List (SymbolicExpression F)) → AllZip AreStepsOf vs es → AllFit layout es → All (StepsFit layout) vs
  unfolding AllFit
  all_steps_fit layout [] es are fit = All-nil (StepsFit layout)
  all_steps_fit layout (v ∷ vs) [] are fit = absurd are
  all_steps_fit layout (v ∷ vs) (e ∷ es) are fit =
      let fits = λ (x : SymbolicExpression F). Fits layout (tree_of x) in
      All-cons (StepsFit layout) v vs (expression_steps_fit layout v e are.0 (All-head fits e es fit)) (all_steps_fit layout vs es are.1 (All-tail fits e es fit))

  module _ (R : Ring F) (window : ℕ → Window F) (rows : List ℕ) where
    -- the slots after some steps
    unfoldable pub worked_out : List (Step F) → List (List F) → List (List F)
    worked_out [] s = s
    worked_out (x ∷ xs) s = worked_out xs (slots_after_step R window rows x s)

    worked_out-append : (xs ys : List (Step F)) (s : List (List F)) → worked_out (xs ++ ys) s ≡ worked_out ys (worked_out xs s)
    unfolding worked_out
    worked_out-append [] ys s = refl
    worked_out-append (x ∷ xs) ys s = worked_out-append xs ys (slots_after_step R window rows x s)

    -- the steps of two trees and an operation
    both : (s : Step F) (a b : Tree F) (c : List F) → ((z : List (List F)) → slots_after_step R window rows s (column R window rows b ∷ column R window rows a ∷ z) ≡ c ∷ z)
        → ((z : List (List F)) → worked_out (steps_in_order a) z ≡ column R window rows a ∷ z)
        → ((z : List (List F)) → worked_out (steps_in_order b) z ≡ column R window rows b ∷ z)
        → (z : List (List F)) → worked_out (steps_in_order a ++ steps_in_order b ++ s ∷ []) z ≡ c ∷ z
    unfolding worked_out
    both s a b c is left right z =
        worked_out-append (steps_in_order a ++ steps_in_order b) (s ∷ []) z
        ∙ ap (λ y. slots_after_step R window rows s y) (worked_out-append (steps_in_order a) (steps_in_order b) z ∙ ap (worked_out (steps_in_order b)) (left z) ∙ right (column R window rows a ∷ z))
        ∙ is z

    -- the steps of a tree fill one slot with its values
    pub worked_out_tree : (t : Tree F) (z : List (List F)) → worked_out (steps_in_order t) z ≡ column R window rows t ∷ z
    unfolding worked_out
    worked_out_tree (leaf l) z = refl
    worked_out_tree (add a b) z = both Add a b _ (λ y. ap (λ c. c ∷ y) (zip_of_maps R.add (λ r. value_of R (window r) a) (λ r. value_of R (window r) b) rows)) (worked_out_tree a) (worked_out_tree b) z
    worked_out_tree (sub a b) z = both Sub a b _ (λ y. ap (λ c. c ∷ y) (zip_of_maps (sub_in R) (λ r. value_of R (window r) a) (λ r. value_of R (window r) b) rows)) (worked_out_tree a) (worked_out_tree b) z
    worked_out_tree (mul a b) z = both Mul a b _ (λ y. ap (λ c. c ∷ y) (zip_of_maps R.mul (λ r. value_of R (window r) a) (λ r. value_of R (window r) b) rows)) (worked_out_tree a) (worked_out_tree b) z
    worked_out_tree (neg a) z =
        worked_out-append (steps_in_order a) (Neg ∷ []) z ∙ ap (λ y. slots_after_step R window rows Neg y) (worked_out_tree a z)
        ∙ ap (λ c. c ∷ z) (map-map R.neg (λ r. value_of R (window r) a) rows)
