-- The slots after a step, the one that was filled last first.
use Rattle.std.specs.Prelude.{ℕ, List, [], ◌∷◌, map}
use Rattle.std.specs.List.{zip}
use Rattle.field.specs.Ring.{Ring, sub_in}
use Rattle.air_expressions.specs.Window.{Window}
use Rattle.lookup_columns.specs.Columns.{leaf_column}
use Rattle.lookup_columns.specs.declared.step.Step.{Step}
use Rattle.lookup_columns.specs.declared.step.Step.TheVariants.{Leaf, Add, Sub, Mul, Neg}

module _ {F : Type 0} where
  -- what the last filled slot holds: nothing if there is none
  abbrev pub last_of : List (List F) → List F
  last_of [] = []
  last_of (x ∷ xs) = x

  -- the other slots
  abbrev pub slots_before_last : List (List F) → List (List F)
  slots_before_last [] = []
  slots_before_last (x ∷ xs) = xs

  -- the last two slots, taken together row by row by an operation, in place of both
  abbrev pub last_two_joined : (F → F → F) → List (List F) → List (List F)
  last_two_joined f s = map (λ p. f p.0 p.1) (zip (last_of (slots_before_last s)) (last_of s)) ∷ slots_before_last (slots_before_last s)

  -- the slots after a step on these rows
  abbrev pub slots_after_step : Ring F → (ℕ → Window F) → List ℕ → Step F → List (List F) → List (List F)
  slots_after_step R window rows (Leaf l) s = leaf_column R window rows l ∷ s
  slots_after_step R window rows Add s = last_two_joined R.add s
  slots_after_step R window rows Sub s = last_two_joined (sub_in R) s
  slots_after_step R window rows Mul s = last_two_joined R.mul s
  slots_after_step R window rows Neg s = map R.neg (last_of s) ∷ slots_before_last s
