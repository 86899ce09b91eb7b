use Rattle.std.proofs.Common.{take}
use Rattle.field.specs.laws.Extension.{of_laws}
use Rattle.air.specs.Row.{input_window}
use Rattle.checker_witness.proofs.HoldsLaws.{BothHold}
use Rattle.checker_witness.specs.Ranges.{HoldsUntil}
use Rattle.checker_witness.proofs.chunks.chunk_holds_until.Given as goal

abbrev pub invariant-loop-i : goal.invariant-loop-i
invariant-loop-i g l =
    HoldsUntil (λ r. BothHold (of_laws g.met.EF.ExtensionField.lawful_fields) (input_window l.inputs r) l.lookups (take l.i l.lookups)) l.first l.end l.until
