-- The points of keys: the alphas at which their denominators are zero.
use Rattle.std.specs.Prelude.{◌≡◌, ◌+◌, ◌<◌, ℕ}
use Rattle.field.specs.Polynomial.{combined}
use Rattle.field.specs.Ring.{Ring, of_nat, power, sub_in}
use Rattle.lookup_model.specs.Challenges.{ChallengeTable, table_key_denominator_over, lifted_key}
use Rattle.field.specs.Extension.{Extension}
use Rattle.lookup_model.specs.Message.{Key}

-- the point of a key: its combined tuple minus (id + 1) * beta^width
abbrev pub point_in : {K : Type 0} → Ring K → ℕ → K → Key K → K
point_in S width beta key = sub_in S (combined S key.tuple beta) (S.mul (of_nat S (key.id + 1)) (power S beta width))

-- the point of a key of the traces
abbrev pub point_of : {F K : Type 0} → Extension F K → ℕ → K → Key F → K
point_of E width beta key = point_in E.ring width beta (lifted_key E key)

-- In this table the denominator of each key whose id is below n is alpha minus its point.
abbrev pub HasPoints : {K : Type 0} → Ring K → ℕ → K → K → ℕ → ChallengeTable K → Type 0
HasPoints {K} S width alpha beta n table = (key : Key K) → key.id < n → table_key_denominator_over S table key ≡ sub_in S alpha (point_in S width beta key)
