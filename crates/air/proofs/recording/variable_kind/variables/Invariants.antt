use Rattle.std.proofs.Common.{◌≡◌, length}
use Rattle.air.specs.internal.Variables.{AreVariables}
use Rattle.air.proofs.recording.variable_kind.variables.Given as goal

abbrev pub invariant-loop-i : goal.invariant-loop-i
invariant-loop-i g l =
    (length l.all.items ≡ l.i) × AreVariables g.V.VariableKind.entry_of g.V.VariableKind.index_of l.entry 0 l.all.items
