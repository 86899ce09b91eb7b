-- The sum of the terminals of all AIRs.
use Rattle.std.specs.Prelude.{List, Option, None, Some, map}
use Rattle.field.specs.Ring.{Ring}
use Rattle.field.specs.Sums.{sum_in}
use Rattle.lookup_model.specs.declared.types.LookupTerminal.{LookupTerminal}

-- the value of a terminal, zero if an AIR has none
abbrev pub terminal_value : {K : Type 0} → Ring K → Option (LookupTerminal K) → K
terminal_value S None = S.zero
terminal_value S (Some terminal) = terminal.0

-- the sum of the terminals that are present
abbrev pub terminal_sum : {K : Type 0} → Ring K → List (Option (LookupTerminal K)) → K
terminal_sum S terminals = sum_in S (map (terminal_value S) terminals)
