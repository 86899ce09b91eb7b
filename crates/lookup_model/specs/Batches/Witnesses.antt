-- Witnesses of a batch: when they are satisfied and accepted, and the plain one.
use Rattle.std.specs.Prelude.{◌≡◌, List, Option, length, map}
use Rattle.std.specs.List.{AllZip, zip}
use Rattle.matrix.specs.Matrix.{Matrix}
use Rattle.lookup_model.specs.Challenges.{ChallengeTable, column_challenges, table_key_denominator}
use Rattle.field.specs.Extension.{Extension}
use Rattle.lookup_model.specs.Generated.{plain_matrix, plain_terminal_of}
use Rattle.lookup_model.specs.Terminals.{terminal_sum}
use Rattle.lookup_model.specs.Witness.{IsSatisfied}
use Rattle.lookup_model.specs.declared.types.LookupTerminal.{LookupTerminal}
use Rattle.lookup_model.specs.Batches.Instances.{Instance}
use Rattle.lookup_model.specs.Batches.Messages.{sent_rows_of}
use Rattle.lookup_model.specs.declared.witness.Witness.{Witness}

-- what a witness has for one AIR: an auxiliary trace and an optional terminal
abbrev pub AirResult : Type 0 → Type 0
AirResult K = Matrix K × Option (LookupTerminal K)

-- the results that a value of the program holds, AIR by AIR
abbrev pub results_of : {K : Type 0} → Witness K → List (AirResult K)
results_of w = zip w.aux.items w.terminals.items

-- a value of the program has an auxiliary trace and an optional terminal for each AIR
abbrev pub HasOneOfEach : {F K : Type 0} → List (Instance F) → Witness K → Type 0
HasOneOfEach instances w =
    (length w.aux.items ≡ length instances) × (length w.terminals.items ≡ length instances)

module _ {F K : Type 0} (E : Extension F K) (table : ChallengeTable K) where
  -- the constraints of one AIR hold on all of its rows
  abbrev pub IsSatisfiedAt : Instance F → AirResult K → Type 0
  IsSatisfiedAt i r =
      IsSatisfied E i.traces i.lookups (column_challenges table i.ids) r.0 r.1

  -- A witness is satisfied if it has a result for each AIR, and the constraints of each hold.
  abbrev pub AreSatisfied : List (Instance F) → List (AirResult K) → Type 0
  AreSatisfied instances witness = AllZip IsSatisfiedAt instances witness

  -- A witness is accepted if it is satisfied, and the terminals that are present sum to zero.
  pub record IsAccepted (instances : List (Instance F)) (witness : List (AirResult K)) : Type 0 where
    pub satisfied : AreSatisfied instances witness
    pub balanced : terminal_sum E.ring (map (λ r. r.1) witness) ≡ E.ring.zero

  -- the only satisfied witness: every satisfied one is equal to it, in every cell and terminal
  abbrev pub IsOnlySatisfied : List (Instance F) → List (AirResult K) → Type 0
  IsOnlySatisfied instances witness = (other : List (AirResult K)) → AreSatisfied instances other → other ≡ witness

  -- the plain result of one AIR, over what it sends under its ids
  abbrev pub plain_result : Instance F → AirResult K
  plain_result i =
      let rows = sent_rows_of E.base E.base_eq i in
      (plain_matrix E (table_key_denominator E table) i.lookups rows, plain_terminal_of E (table_key_denominator E table) i.lookups rows)

  -- the plain witness of a batch
  abbrev pub plain_witness : List (Instance F) → List (AirResult K)
  plain_witness instances = map plain_result instances
