-- Lists of bits.
use Rattle.std.specs.Prelude.{List, [], ◌∷◌}
use Rattle.field.specs.Ring.{Ring}

-- the sum of a list of elements
abbrev pub sum_of : {F : Type 0} → Ring F → List F → F
sum_of R [] = R.zero
sum_of R (a ∷ as') = R.add a (sum_of R as')
