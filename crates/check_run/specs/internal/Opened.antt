-- A batch over its tables, with its plan and a pair of challenges, as the program holds it.
use Rattle.std.specs.Prelude.{ℕ, List, map}
use Rattle.field_words.specs.Fields.{Fields}
use Rattle.language_meaning.specs.Files.{File}
use Rattle.check_words.specs.declared.request.ChallengeWords.{ChallengeWords}
use Rattle.batch.specs.Plans.{Plan}
use Rattle.check_judge.specs.Found.{IsPlanOf, sized_of}
use Rattle.check_run.specs.Runs.{IsReadBatch}
use Rattle.check_judge.specs.declared.airs.AirOver.{AirOver}
use Rattle.check_judge.specs.Airs.{over_traced}

-- the AIRs are those that the files say, the plan is one of them, and the challenges are those that the words write
pub record IsOpened {F K : Type 0} (fields : Fields F K) (text : List ℕ) (files : List File) (words : ChallengeWords) (airs : List (AirOver F)) (plan : Plan F) (alpha beta : K) : Type 0 where
  pub batch : IsReadBatch fields text files (map over_traced airs)
  pub planned : IsPlanOf fields.characteristic (map (λ a. sized_of (over_traced a)) airs) plan
  pub alpha_is : fields.written words.alpha.now alpha
  pub beta_is : fields.written words.beta.now beta
