-- Constraints on fixed cells alone, over all traces with one preprocessed trace, and copies of constraints.
use Rattle.std.proofs.Common.{◌≡◌, ℕ, ◌+◌, ◌<◌, ◌%◌, All, List, Option, Some, [], ◌++◌, arith, map, refl, sym, ap, subst, ◌∙◌}
use Rattle.std.proofs.lemmas.List.{get_or-map, length-map}
use Rattle.std.proofs.lemmas.List.Elements.{All-append, All-map}
use Rattle.field.specs.Ring.{Ring}
use Rattle.matrix.specs.Matrix.{Matrix, height}
use Rattle.air.specs.Traces.{AirTraces, air_traces, height_of, window_of}
use Rattle.air_constraints.specs.Hold.{HoldOn, value_at}
use Rattle.air_expressions.specs.Meaning.{value_of}
use Rattle.air_expressions.specs.Tree.{Tree, tree_of}
use Rattle.air_expressions.specs.Window.{Window, row_of_option}
use Rattle.air_expressions.specs.declared.base_expression.SymbolicExpression.{SymbolicExpression}
use Rattle.lookup_enforced.specs.Fixed.{FollowOver, HoldOverFixed, ReadsFixed}

-- what holds of all images holds of all
of_images : {X Y : Type 0} (P : Y → Type 0) (f : X → Y) (xs : List X) → All P (map f xs) → All (λ x. P (f x)) xs
of_images P f xs all k d lt = subst P (get_or-map f xs k d (f d) lt) (all k (f d) (omega (arith, lt, length-map xs f)))

module _ {F : Type 0} (R : Ring F) (m : Matrix F) where
  -- what holds where the preprocessed trace is the main one too holds over all traces with that preprocessed trace
  pub over_fixed : (es : List (SymbolicExpression F)) → All (ReadsFixed R) es → HoldOn R (air_traces m (Some m) []) es → HoldOverFixed R m es
  over_fixed es fixed hold = λ traces is high r lt. λ k d below.
      let row : (window_of traces r).preprocessed ≡ row_of_option (Some m) r = ap (λ (o : Option (Matrix F)). row_of_option o r) is in
      let next : (window_of traces r).preprocessed_next ≡ row_of_option (Some m) ((r + 1) % height m) =
      ap (λ (o : Option (Matrix F)). row_of_option o ((r + 1) % height_of traces)) is ∙ ap (λ n. row_of_option (Some m) ((r + 1) % n)) high in
      let P : ℕ → Type 0 = λ n. r < n in
      fixed k d below (window_of traces r) (window_of (air_traces m (Some m) []) r) row next ∙ hold r (subst P high lt) k d below

  -- constraints that hold beside others that do
  pub over_both : (es fs gs : List (SymbolicExpression F)) → gs ≡ es ++ fs → HoldOverFixed R m es → HoldOverFixed R m fs → HoldOverFixed R m gs
  over_both es fs gs is first second = λ traces fixed high r lt.
      let P : List (SymbolicExpression F) → Type 0 = All (λ e. value_at R (window_of traces r) e ≡ R.zero) in
      subst P (sym is) (All-append (λ e. value_at R (window_of traces r) e ≡ R.zero) es fs (first traces fixed high r lt) (second traces fixed high r lt))

  -- constraints that follow from their originals, and constraints that hold over the preprocessed trace, follow together
  pub follow_beside : (cs es fs gs : List (SymbolicExpression F)) → gs ≡ es ++ fs → map tree_of es ≡ map tree_of cs → HoldOverFixed R m fs → FollowOver R (Some m) (height m) cs gs
  follow_beside cs es fs gs is same fixed = λ traces there high hold r lt.
      let P : List (SymbolicExpression F) → Type 0 = All (λ e. value_at R (window_of traces r) e ≡ R.zero) in
      let Q : Tree F → Type 0 = λ t. value_of R (window_of traces r) t ≡ R.zero in
      let copies = of_images Q tree_of es (subst (All Q) (sym same) (All-map Q tree_of cs (hold r lt))) in
      subst P (sym is) (All-append (λ e. value_at R (window_of traces r) e ≡ R.zero) es fs copies (fixed traces there high r lt))

  -- no constraints hold over any trace
  pub none_fixed : (es : List (SymbolicExpression F)) → es ≡ [] → HoldOverFixed R m es
  none_fixed es is = subst (HoldOverFixed R m) (sym is) (λ traces there high r lt. λ k d below. absurd (omega (arith, below)))
