-- The range of weights.
use Rattle.std.specs.Prelude.{◌^◌, ℕ}

-- every weight is below this
abbrev pub weight_bound : ℕ
weight_bound = 2 ^ 64
