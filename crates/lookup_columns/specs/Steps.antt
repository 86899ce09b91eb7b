-- Expressions as lists of steps.
use Rattle.std.specs.Prelude.{◌≡◌, ◌++◌, List, [], ◌∷◌, All}
use Rattle.std.specs.declared.alloc.Global.{Global}
use Rattle.std.specs.declared.vec.Vec.{Vec}
use Rattle.air_expressions.specs.Layout.{LeafFits}
use Rattle.air_expressions.specs.Tree.{Tree, leaf, add, sub, mul, neg, tree_of}
use Rattle.air_expressions.specs.declared.base_expression.SymbolicExpression.{SymbolicExpression}
use Rattle.air_expressions.specs.declared.layout.AirLayout.{AirLayout}
use Rattle.lookup_columns.specs.declared.step.Step.{Step}
use Rattle.lookup_columns.specs.declared.step.Step.TheVariants.{Leaf, Add, Sub, Mul, Neg}

module _ {F : Type 0} where
  -- the steps of a tree: those of its parts, and then its own operation
  abbrev pub steps_in_order : Tree F → List (Step F)
  steps_in_order (leaf l) = Leaf l ∷ []
  steps_in_order (add a b) = steps_in_order a ++ steps_in_order b ++ Add ∷ []
  steps_in_order (sub a b) = steps_in_order a ++ steps_in_order b ++ Sub ∷ []
  steps_in_order (mul a b) = steps_in_order a ++ steps_in_order b ++ Mul ∷ []
  steps_in_order (neg a) = steps_in_order a ++ Neg ∷ []

  -- These are the steps of an expression.
  abbrev pub AreStepsOf : Vec (Step F) Global → SymbolicExpression F → Type 0
  AreStepsOf v e = v.items ≡ steps_in_order (tree_of e)

  -- The leaf of a step, if it has one, is within a layout.
  abbrev pub StepFits : AirLayout → Step F → Type 0
  StepFits layout (Leaf l) = LeafFits layout l
  StepFits layout Add = Unit {0}
  StepFits layout Sub = Unit {0}
  StepFits layout Mul = Unit {0}
  StepFits layout Neg = Unit {0}

  -- the same of each step
  abbrev pub StepsFit : AirLayout → Vec (Step F) Global → Type 0
  StepsFit layout v = All (StepFits layout) v.items
