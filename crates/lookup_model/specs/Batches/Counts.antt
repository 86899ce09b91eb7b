-- Counted soundness: at how few challenges a batch that does not balance can be accepted.
use Rattle.std.specs.Prelude.{◌≡◌, ◌+◌, ◌-◌, ◌*◌, ◌/◌, ◌^◌, ◌<◌, ◌≤◌, ℕ, List, MatchOption, None, length, map}
use Rattle.std.specs.List.{AllByRecursion}
use Rattle.field.specs.Distinct.{IsDistinct}
use Rattle.lookup_model.specs.Challenges.{bus_table}
use Rattle.field.specs.Extension.{Extension}
use Rattle.lookup_model.specs.Message.{Key}
use Rattle.lookup_model.specs.Net.{keys, unbalanced_keys}
use Rattle.lookup_model.specs.Points.{point_of}
use Rattle.lookup_model.specs.declared.error.LookupError.TheVariants.{CountOverflow}
use Rattle.lookup_model.specs.Batches.Instances.{Instance}
use Rattle.lookup_model.specs.Batches.Messages.{batch_messages}
use Rattle.lookup_model.specs.Batches.Witnesses.{AirResult, IsAccepted}
use Rattle.lookup_model.specs.declared.count.SoundnessCount.{SoundnessCount}
use Rattle.lookup_model.specs.declared.fault.BatchFault.{BatchFault}

module _ {F K : Type 0} (E : Extension F K) (instances : List (Instance F)) where
  -- The message count n: how many distinct keys the messages have, whatever their multiplicities.
  abbrev pub message_count : ℕ
  message_count = length (keys E.base_eq (batch_messages E.base E.base_eq instances))

  -- The unbalanced keys: the distinct keys whose net is not zero.
  abbrev pub unbalanced : List (Key F)
  unbalanced = unbalanced_keys E.base E.base_eq (batch_messages E.base E.base_eq instances)

  -- The unbalanced count k: how many keys are unbalanced.
  abbrev pub unbalanced_count : ℕ
  unbalanced_count = length unbalanced

  -- tables are made for tuples of at most W elements
  module _ (W : ℕ) where
    -- At this beta, alpha is accepting if some witness, whoever made it, is accepted.
    abbrev pub IsAccepting : K → K → Type 0
    IsAccepting beta alpha = (witness : List (AirResult K)) × IsAccepted E (bus_table E.ring W beta alpha) instances witness

    -- A beta is sharing if two unbalanced keys have the same point.
    abbrev pub IsSharing : K → Type 0
    IsSharing beta = ¬ IsDistinct (map (point_of E W beta) unbalanced)

    -- A beta is bad if a distinct list of n + k accepting alphas exists.
    abbrev pub IsBadBeta : K → Type 0
    IsBadBeta beta =
        (alphas : List K) × IsDistinct alphas × AllByRecursion (IsAccepting beta) alphas × (length alphas ≡ message_count + unbalanced_count)

    -- The bound of bad betas: W * k * (k - 1) / 2, which is W for each pair of unbalanced keys.
    abbrev pub bad_beta_bound : ℕ
    bad_beta_bound = W * unbalanced_count * (unbalanced_count - 1) / 2

    -- Every distinct list of sharing betas has at most that many items.
    abbrev pub FewSharingBetas : Type 0
    FewSharingBetas =
        (betas : List K) → IsDistinct betas → AllByRecursion IsSharing betas → length betas ≤ bad_beta_bound

    -- If k is above zero, at every other beta each distinct list of accepting alphas has fewer than
    -- n + k items.
    abbrev pub FewAcceptingAlphas : Type 0
    FewAcceptingAlphas =
        0 < unbalanced_count → (beta : K) → ¬ IsSharing beta
        → (alphas : List K) → IsDistinct alphas → AllByRecursion (IsAccepting beta) alphas → length alphas < message_count + unbalanced_count

    -- If k is above zero, every distinct list of bad betas has at most W * k * (k - 1) / 2 items.
    abbrev pub FewBadBetas : Type 0
    FewBadBetas =
        0 < unbalanced_count → (betas : List K) → IsDistinct betas → AllByRecursion IsBadBeta betas → length betas ≤ bad_beta_bound

    -- Counted soundness: few betas are sharing, at every other one few alphas are accepting, and so few
    -- betas are bad.
    pub record IsCountedSound : Type 0 where
      pub sharing_betas : FewSharingBetas
      pub accepting_alphas : FewAcceptingAlphas
      pub bad_betas : FewBadBetas

    -- The counts of a batch: n, k, the bound of bad betas, and n + k - 1, or none if k is zero.
    pub record AreCounts (count : SoundnessCount) : Type 0 where
      pub messages : count.messages ≡ message_count
      pub unbalanced_is : count.unbalanced ≡ unbalanced_count
      pub bad_betas : count.bad_betas ≡ bad_beta_bound
      pub accepting_alphas : MatchOption count.accepting_alphas (unbalanced_count ≡ 0)
          (λ most. (0 < unbalanced_count) × (most ≡ message_count + unbalanced_count - 1))

    -- the refusal of a bound of bad betas that does not fit 128 bits; it is of no AIR
    pub record IsCountOverflow (fault : BatchFault) : Type 0 where
      pub air : fault.air ≡ None
      pub error : fault.error ≡ CountOverflow
      pub large : 2 ^ 128 ≤ bad_beta_bound
