-- What an evaluation keeps of a builder.
use Rattle.std.specs.Prelude.{◌≡◌}
use Rattle.air_expressions.specs.declared.builder.AirBuilder.{Ghosts as AirBuilder}

-- The layout stays, and what is pushed is within it: if all that was pushed before is within the
-- layout, so is all that is pushed after.
abbrev pub StaysWithin : {B F X V U M P S : Type 0} → AirBuilder B F X V U M P S → B → B → Type 0
StaysWithin members before after =
    (members.layout after ≡ members.layout before) × (members.pushed_within before → members.pushed_within after)
