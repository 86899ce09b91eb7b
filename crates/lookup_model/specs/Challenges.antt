-- The challenges of a batch (LogUp, eprint 2022/1530, with one offset per bus).
use Rattle.std.specs.Prelude.{ℕ, ◌+◌, List, [], ◌∷◌, map, slice_index_or}
use Rattle.std.specs.Box.{boxed_slice_items}
use Rattle.std.specs.List.{flat_map}
use Rattle.field.specs.Polynomial.{combined}
use Rattle.field.specs.Ring.{Ring, of_nat, power, sub_in}
use Rattle.field.specs.Extension.{Extension}
use Rattle.lookup_model.specs.Message.{Key}
use Rattle.lookup_model.specs.declared.challenges.Challenges.{Challenges}

-- the prefix of the bus with id i: alpha + (i + 1) * beta^width
abbrev pub prefix_of_bus : {K : Type 0} → Ring K → K → K → ℕ → ℕ → K
prefix_of_bus S alpha beta width i = S.add alpha (S.mul (of_nat S (i + 1)) (power S beta width))

-- a challenge table: the prefix of the denominators of each id, and the beta that combines tuples
pub record ChallengeTable (K : Type 0) : Type 0 where
  pub prefix : ℕ → K
  pub beta : K

-- the table of one pair of challenges, for tuples of at most this width
abbrev pub bus_table : {K : Type 0} → Ring K → ℕ → K → K → ChallengeTable K
bus_table S width beta alpha = record { prefix = prefix_of_bus S alpha beta width; beta = beta }

-- the table that a value of the program holds, for the ids that it has prefixes of
abbrev pub table_of : {K : Type 0} → Challenges K → ChallengeTable K
table_of c = record { prefix = λ id. slice_index_or (boxed_slice_items c.bus_prefix) id c.alpha; beta = c.beta }

-- the challenges of columns whose lookups have these ids: for each id its prefix, and beta
abbrev pub column_challenges : {K : Type 0} → ChallengeTable K → List ℕ → List K
column_challenges table ids = flat_map (λ id. table.prefix id ∷ table.beta ∷ []) ids

-- the denominator of a key: the prefix of its id minus its combined tuple
abbrev pub table_key_denominator_over : {K : Type 0} → Ring K → ChallengeTable K → Key K → K
table_key_denominator_over S table key = sub_in S (table.prefix key.id) (combined S key.tuple table.beta)

-- a key of the traces, with its tuple in the extension
abbrev pub lifted_key : {F K : Type 0} → Extension F K → Key F → Key K
lifted_key E key = record { id = key.id; tuple = map E.embed key.tuple }

-- the denominator of a key of the traces
abbrev pub table_key_denominator : {F K : Type 0} → Extension F K → ChallengeTable K → Key F → K
table_key_denominator E table key = table_key_denominator_over E.ring table (lifted_key E key)
