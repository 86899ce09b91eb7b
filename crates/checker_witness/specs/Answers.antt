-- What the check of a witness answers.
use Rattle.std.specs.Prelude.{◌≡◌, ◌≢◌, ◌⊎◌, List, Result, MatchResult, IfOk, IfErr}
use Rattle.lookup_model.specs.Challenges.{ChallengeTable}
use Rattle.field.specs.Extension.{Extension}
use Rattle.lookup_model.specs.declared.error.LookupError.{LookupError}
use Rattle.lookup_model.specs.declared.error.LookupError.TheVariants.{Memory}
use Rattle.lookup_model.specs.Batches.Instances.{HavePrefixes, Instance, InstancesFit}
use Rattle.lookup_model.specs.declared.challenges.Challenges.{Challenges}
use Rattle.lookup_model.specs.declared.instance.BatchInstance.{BatchInstance}
use Rattle.lookup_model.specs.Batches.Messages.{IsRegular}
use Rattle.lookup_model.specs.Batches.Refusals.{IsWitnessRefusal}
use Rattle.lookup_model.specs.Batches.Witnesses.{AirResult, IsAccepted, plain_witness}

module _ {F K : Type 0} (E : Extension F K) (table : ChallengeTable K) (instances : List (Instance F)) where
  -- the check of a witness answers whether it is accepted, or its first refusal; or memory runs out
  abbrev pub ChecksWitness : List (AirResult K) → Result (Unit {0}) LookupError → Type 0
  ChecksWitness witness answer = MatchResult answer
      (λ _. IsAccepted E table instances witness)
      (λ e. (e ≡ Memory) ⊎ IsWitnessRefusal E table instances witness e)

  -- unless memory runs out, a refused witness is not accepted
  abbrev pub RefusesUnaccepted : List (AirResult K) → Result (Unit {0}) LookupError → Type 0
  RefusesUnaccepted witness answer = IfErr answer (λ e. e ≢ Memory → ¬ IsAccepted E table instances witness)

  -- whatever the errors of the call
  module _ {X : Type 0} where
    -- if the batch is regular, only the plain witness passes
    abbrev pub PassesOnlyPlain : List (AirResult K) → Result (Unit {0}) X → Type 0
    PassesOnlyPlain witness answer = IfOk answer (λ _. IsRegular E table instances → witness ≡ plain_witness E table instances)

-- The instances fit, and the challenges have a prefix for each of their ids.
abbrev pub AreReady : {F K : Type 0} → Challenges K → List (BatchInstance F) → Type 0
AreReady challenges bs = InstancesFit bs × HavePrefixes challenges bs
