-- How deep expressions nest.
use Rattle.std.specs.Prelude.{ℕ, ◌+◌, max}
use Rattle.air_expressions.specs.Tree.{Tree, leaf, add, sub, mul, neg}

-- the greatest number of nodes on a path from the root to a leaf, counting both
abbrev pub depth_of : {F : Type 0} → Tree F → ℕ
depth_of (leaf l) = 1
depth_of (add a b) = 1 + max (depth_of a) (depth_of b)
depth_of (sub a b) = 1 + max (depth_of a) (depth_of b)
depth_of (mul a b) = 1 + max (depth_of a) (depth_of b)
depth_of (neg a) = 1 + depth_of a
