-- The extension expressions that stay within a layout.
use Rattle.std.specs.Prelude.{ℕ, ◌<◌, ◌≤◌}
use Rattle.air_expressions.specs.ExtTree.{ExtTree, base, variable, constant, add, sub, mul, neg}
use Rattle.air_expressions.specs.Layout.{Fits}
use Rattle.air_expressions.specs.declared.layout.AirLayout.{AirLayout}
use Rattle.air_expressions.specs.declared.variable.ExtEntry.{ExtEntry}
use Rattle.air_expressions.specs.declared.variable.ExtEntry.TheVariants.{Permutation, Challenge, PermutationValue}

-- an entry and an index stay within a layout: offset 0 or 1, and the index below the width or number
abbrev pub ExtEntryFits : AirLayout → ExtEntry → ℕ → Type 0
ExtEntryFits layout (Permutation offset) index = (offset ≤ 1) × (index < layout.permutation_width)
ExtEntryFits layout Challenge index = index < layout.num_permutation_challenges
ExtEntryFits layout PermutationValue index = index < layout.num_permutation_values

-- every variable of a tree stays within a layout
abbrev pub ExtFits : {F EF : Type 0} → AirLayout → ExtTree F EF → Type 0
ExtFits layout (base e) = Fits layout e
ExtFits layout (variable v) = ExtEntryFits layout v.entry v.index
ExtFits layout (constant c) = Unit {0}
ExtFits layout (add a b) = ExtFits layout a × ExtFits layout b
ExtFits layout (sub a b) = ExtFits layout a × ExtFits layout b
ExtFits layout (mul a b) = ExtFits layout a × ExtFits layout b
ExtFits layout (neg a) = ExtFits layout a
