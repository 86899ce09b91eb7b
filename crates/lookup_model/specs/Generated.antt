-- What generation gives.
use Rattle.std.specs.Prelude.{◌+◌, List, [], ◌∷◌, Option, None, Some, length}
use Rattle.matrix.specs.Matrix.{Matrix}
use Rattle.field.specs.Extension.{Extension}
use Rattle.lookup_model.specs.Message.{Key}
use Rattle.lookup_model.specs.Plain.{plain_cells, plain_terminal}
use Rattle.lookup_model.specs.Sent.{Sent}
use Rattle.lookup_model.specs.declared.types.Lookup.{Lookup}
use Rattle.lookup_model.specs.declared.types.LookupTerminal.{LookupTerminal}

module _ {F K : Type 0} (E : Extension F K) (denominator : Key F → K) where
  -- the auxiliary trace: no cells without lookups, otherwise one column more than there are lookups
  abbrev pub plain_matrix : List (Lookup F) → List (List (Sent F)) → Matrix K
  plain_matrix [] rows = record { values = []; width = 0 }
  plain_matrix (l ∷ ls) rows = record { values = plain_cells E denominator rows; width = length (l ∷ ls) + 1 }

  -- the terminal, if there are lookups
  abbrev pub plain_terminal_of : List (Lookup F) → List (List (Sent F)) → Option (LookupTerminal K)
  plain_terminal_of [] rows = None
  plain_terminal_of (l ∷ ls) rows = Some (record { 0 = plain_terminal E denominator rows })
