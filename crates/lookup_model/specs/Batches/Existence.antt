-- Whether some witness of a batch is accepted.
use Rattle.std.specs.Prelude.{◌≡◌, ◌↔◌, Bool, IsTrue, List, Result, MatchResult}
use Rattle.lookup_model.specs.Challenges.{ChallengeTable}
use Rattle.field.specs.Extension.{Extension}
use Rattle.lookup_model.specs.declared.error.LookupError.{LookupError}
use Rattle.lookup_model.specs.declared.error.LookupError.TheVariants.{Memory}
use Rattle.lookup_model.specs.Batches.Instances.{Instance}
use Rattle.lookup_model.specs.Batches.Witnesses.{AirResult, IsAccepted}

module _ {F K : Type 0} (E : Extension F K) (table : ChallengeTable K) (instances : List (Instance F)) where
  -- some witness, whoever makes it, is accepted
  abbrev pub HasAccepted : Type 0
  HasAccepted = (witness : List (AirResult K)) × IsAccepted E table instances witness

  -- the answer is whether some witness is accepted; or memory runs out
  abbrev pub DecidesAccepted : Result Bool LookupError → Type 0
  DecidesAccepted answer = MatchResult answer (λ found. IsTrue found ↔ HasAccepted) (λ e. e ≡ Memory)
