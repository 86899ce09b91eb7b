-- What generation and counting answer.
use Rattle.std.specs.Prelude.{◌≡◌, ◌⊎◌, ℕ, List, Result, MatchResult, IfOk, IfErr}
use Rattle.lookup_model.specs.Challenges.{ChallengeTable}
use Rattle.field.specs.Extension.{Extension}
use Rattle.lookup_model.specs.Net.{IsBalanced}
use Rattle.lookup_model.specs.Batches.Counts.{AreCounts, IsCountOverflow}
use Rattle.lookup_model.specs.Batches.Faults.{AreFaultless, IsFirstFault, IsOutOfMemory}
use Rattle.lookup_model.specs.Batches.FlagFaults.{IsFirstFlagFault}
use Rattle.lookup_model.specs.Batches.Instances.{Instance}
use Rattle.lookup_model.specs.Batches.Messages.{AreFlagsLawful, IsRegular, batch_messages}
use Rattle.lookup_model.specs.Batches.Witnesses.{AreSatisfied, HasOneOfEach, IsAccepted, IsOnlySatisfied, plain_witness, results_of}
use Rattle.lookup_model.specs.declared.count.SoundnessCount.{SoundnessCount}
use Rattle.lookup_model.specs.declared.fault.BatchFault.{BatchFault}
use Rattle.lookup_model.specs.declared.witness.Witness.{Witness}

module _ {F K : Type 0} (E : Extension F K) (table : ChallengeTable K) (instances : List (Instance F)) where
  -- The plain witness of the batch, which has an auxiliary trace and a terminal for each AIR; no AIR has
  -- a fault.
  abbrev pub IsPlainWitness : Witness K → Type 0
  IsPlainWitness w = (results_of w ≡ plain_witness E table instances) × HasOneOfEach instances w × AreFaultless E table instances

  -- generation gives the plain witness, or the fault of the first AIR that has one; or memory runs out
  abbrev pub GivesPlainWitness : Result (Witness K) BatchFault → Type 0
  GivesPlainWitness answer = MatchResult answer IsPlainWitness (λ fault. IsOutOfMemory fault ⊎ IsFirstFault E table instances fault)

  -- if the batch is regular, generation fails only when memory runs out
  abbrev pub SucceedsIfRegular : Result (Witness K) BatchFault → Type 0
  SucceedsIfRegular answer = IfErr answer (λ fault. IsRegular E table instances → IsOutOfMemory fault)

  -- a witness is satisfied and, if the batch is regular, no other one is
  abbrev pub IsSatisfiedAlone : Witness K → Type 0
  IsSatisfiedAlone w = AreSatisfied E table instances (results_of w) × (IsRegular E table instances → IsOnlySatisfied E table instances (results_of w))

  -- if the messages balance, a witness is accepted
  abbrev pub IsAcceptedIfBalanced : Witness K → Type 0
  IsAcceptedIfBalanced w = IsBalanced E.base E.base_eq (batch_messages E.base E.base_eq instances) → IsAccepted E table instances (results_of w)

  -- whatever the errors of the call
  module _ {X : Type 0} where
    -- a witness that is given is satisfied and, if the batch is regular, no other one is
    abbrev pub GivesSatisfied : Result (Witness K) X → Type 0
    GivesSatisfied answer = IfOk answer IsSatisfiedAlone

    -- if the messages balance, a witness that is given is accepted
    abbrev pub GivesAcceptedIfBalanced : Result (Witness K) X → Type 0
    GivesAcceptedIfBalanced answer = IfOk answer IsAcceptedIfBalanced

module _ {F K : Type 0} (E : Extension F K) (instances : List (Instance F)) (W : ℕ) where
  -- Counting gives the counts, over lawful flags. Else it refuses the first fault of flags or, where
  -- there is none, a bound that does not fit; or memory runs out.
  abbrev pub GivesCounts : Result SoundnessCount BatchFault → Type 0
  GivesCounts answer = MatchResult answer
      (λ count. AreFlagsLawful E.base E.base_eq instances × AreCounts E instances W count)
      (λ fault. IsOutOfMemory fault ⊎ (IsFirstFlagFault E.base E.base_eq instances fault ⊎ (AreFlagsLawful E.base E.base_eq instances × IsCountOverflow E instances W fault)))
