-- What an AIR that only pushes leaves when it is refused.
use Rattle.std.specs.Prelude.{◌≡◌, ◌⊎◌, ℕ, List, [], ◌∷◌}
use Rattle.air.specs.Cell.{IsCellsRefusal}
use Rattle.air_expressions.specs.declared.error.AirError.{AirError}
use Rattle.air_expressions.specs.declared.layout.AirLayout.{AirLayout}

module _ {B M : Type 0} (pushes : B → M → B → Type 0) where
  -- a builder after these interactions were pushed and accepted, in order
  abbrev pub AcceptedAll : B → List M → B → Type 0
  AcceptedAll before [] after = before ≡ after
  AcceptedAll before (m ∷ ms) after = (next : B) × pushes before m next × AcceptedAll next ms after

  -- The refusal of an AIR that reads so many columns: some interactions were pushed and accepted, and stay;
  -- then there was no cell or no memory, and nothing more, or the builder refused one more of them.
  pub record IsRefusedAfter (refuses : B → M → AirError → B → Type 0) (window_refuses : B → AirError → Type 0) (layout : B → AirLayout) (columns : ℕ) (before : B) (e : AirError) (after : B) : Type 0 where
    pub accepted : List M
    pub reached : B
    pub stays : AcceptedAll before accepted reached
    pub refusal : ((after ≡ reached) × IsCellsRefusal window_refuses layout columns reached e) ⊎ ((m : M) × refuses reached m e after)
