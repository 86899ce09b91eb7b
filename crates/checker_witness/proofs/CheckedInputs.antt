-- Inputs that lookups are checked on.
use Rattle.std.proofs.Common.{◌≡◌, ◌<◌, ℕ, true≢false, Option, None, Some, List, [], ◌∷◌, length, sym, arith}
use Rattle.air_expressions.specs.Window.{ExtWindow}
use Rattle.field.specs.Extension.{Extension}
use Rattle.lookup_model.specs.Witness.{HasShape, values_of_terminal}
use Rattle.lookup_model.specs.declared.types.Lookup.{Lookup}
use Rattle.lookup_model.specs.declared.types.LookupTerminal.{LookupTerminal}
use Rattle.matrix.specs.Matrix.{Matrix, height}
use Rattle.checker_witness.specs.internal.Rows.{AllHoldAt}

-- for some lookups a result of their shape has rows, cells and a terminal
pub shaped : {F K : Type 0} (lookups : List (Lookup F)) (h : ℕ) (auxiliary : Matrix K) (terminal : Option (LookupTerminal K)) → HasShape lookups h auxiliary terminal → 0 < length lookups
    → (height auxiliary ≡ h) × (length lookups < auxiliary.width) × (0 < length (values_of_terminal terminal))
shaped [] h auxiliary terminal shape some = absurd (omega (arith, some))
shaped (l ∷ ls) h auxiliary None shape some = absurd (true≢false shape.presence)
shaped (l ∷ ls) h auxiliary (Some t) shape some = (shape.high, omega (arith, shape.width), omega arith)

-- where there is a terminal there are lookups, and where there is none there are none
pub some_lookups : {F K : Type 0} (lookups : List (Lookup F)) (h : ℕ) (auxiliary : Matrix K) (terminal : LookupTerminal K) → HasShape lookups h auxiliary (Some terminal) → 0 < length lookups
some_lookups [] h auxiliary terminal shape = absurd (true≢false (sym shape.presence))
some_lookups (l ∷ ls) h auxiliary terminal shape = omega arith

-- without them every constraint holds at every window
pub none_hold : {F K : Type 0} (E : Extension F K) (w : ExtWindow F K) (lookups : List (Lookup F)) (h : ℕ) (auxiliary : Matrix K) → HasShape lookups h auxiliary None → AllHoldAt E w lookups
none_hold E w [] h auxiliary shape = tt
none_hold E w (l ∷ ls) h auxiliary shape = absurd (true≢false shape.presence)
