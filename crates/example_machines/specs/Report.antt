-- The last line that a run prints.
use Rattle.std.specs.Prelude.{ℕ, Bool, true, false, List, codes}

-- the last line: whether the terminals cancel
abbrev pub verdict_line : Bool → List ℕ
verdict_line true = codes "balanced\n"
verdict_line false = codes "unbalanced\n"
