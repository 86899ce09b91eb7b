-- The left sides of the accumulator's constraints, as expressions.
use Rattle.std.specs.Prelude.{List}
use Rattle.field.specs.Extension.{Extension}
use Rattle.air_expressions.specs.Window.{ExtWindow}
use Rattle.air_expressions.specs.declared.view.BuilderView.{Ghosts as BuilderView}
use Rattle.lookup_constraints.specs.declared.accumulator.AccumulatorSides.{AccumulatorSides}
use Rattle.lookup_constraints.specs.internal.Meanings.{Meaning, MeansOn, cell_meaning, minus}
use Rattle.lookup_model.specs.Constraints.{accumulator_at, fractions_at, next_accumulator_at}
use Rattle.lookup_model.specs.declared.types.Lookup.{Lookup}

-- the left side of the equation that `to` is the accumulator plus the fractions of the row
abbrev pub step_meaning : {F K : Type 0} → Extension F K → List (Lookup F) → Meaning (ExtWindow F K) K → Meaning (ExtWindow F K) K
step_meaning E lookups to =
    minus E.ring (minus E.ring to (cell_meaning (accumulator_at E))) (cell_meaning (fractions_at E lookups))

-- The left sides of the accumulator's constraints: the accumulator is zero, the next one is this one plus
-- the fractions, and the terminal is this one plus the fractions.
pub record AreSides {B F K X : Type 0} (members : BuilderView B F K X) (E : Extension F K) (builder : B) (lookups : List (Lookup F)) (terminal : Meaning (ExtWindow F K) K) (sides : AccumulatorSides X) : Type 0 where
  pub first : MeansOn members builder (cell_meaning (accumulator_at E)) sides.first
  pub transition : MeansOn members builder (step_meaning E lookups (cell_meaning (next_accumulator_at E))) sides.transition
  pub last : MeansOn members builder (step_meaning E lookups terminal) sides.last
