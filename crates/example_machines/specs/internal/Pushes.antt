-- What the AIRs of the machines push.
use Rattle.std.specs.Prelude.{◌≡◌, ℕ, List, [], ◌∷◌, map}
use Rattle.std.specs.declared.alloc.Global.{Global}
use Rattle.std.specs.declared.vec.Vec.{Vec}
use Rattle.air.specs.Cell.{IsCell}
use Rattle.lookup_record.specs.Messages.{flag_and_key}

module _ {E W F : Type 0} (value : E → W → F) (stands : W → Type 0) (cells : W → List F) where
  -- the tuple of one expression whose value is this cell of the row
  abbrev pub IsCellTuple : ℕ → List E → Type 0
  IsCellTuple column tuple = (x : E) × (tuple ≡ x ∷ []) × IsCell value stands cells column x

  -- the branches of a group: cell 1 with the flag in cell 0, and cell 3 with the flag in cell 2
  pub record AreTwoKeys (branches : List (E × Vec E Global)) : Type 0 where
    pub first_flag : E
    pub first_key : List E
    pub second_flag : E
    pub second_key : List E
    pub branches_are : map flag_and_key branches ≡ (first_flag, first_key) ∷ (second_flag, second_key) ∷ []
    pub first_flag_is : IsCell value stands cells 0 first_flag
    pub first_key_is : IsCellTuple 1 first_key
    pub second_flag_is : IsCell value stands cells 2 second_flag
    pub second_key_is : IsCellTuple 3 second_key
