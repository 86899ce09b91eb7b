-- What comes of what words ask for, or of why they ask for nothing.
use Rattle.std.specs.Prelude.{◌≡◌, ℕ, true, List, MatchResult, Result, Ok, Err}
use Rattle.std.specs.String.{string_bytes}
use Rattle.check_words.specs.declared.refusal.WordsRefusal.{WordsRefusal}
use Rattle.check_words.specs.declared.refusal.WordsRefusal.TheVariants as of_words
use Rattle.check_words.specs.declared.request.Asked.{Asked}
use Rattle.check_report.specs.Told.{refusal_text}
use Rattle.check_run.specs.RunRefusals.{IsAskedRefusal}
use Rattle.check_run.specs.Runs.{AnswersTo}
use Rattle.check_run.specs.declared.answer.Answer.{Answer}
use Rattle.check_report.specs.declared.refusal.RunRefusal.{RunRefusal}
use Rattle.check_report.specs.declared.refusal.RunRefusal.TheVariants.{Memory}
use Rattle.field_list.specs.Offers.{Offers}
use Rattle.language_meaning.specs.Files.{File}

-- what comes of words that ask for nothing: help, or a refusal
abbrev pub TellsWords : WordsRefusal → Result Answer RunRefusal → Type 0
TellsWords of_words.Memory result = MatchResult result (λ _. ⊥) (λ e. e ≡ Memory)
TellsWords (of_words.Told told) result = MatchResult result (λ _. ⊥) (λ e. refusal_text e ≡ string_bytes told)
TellsWords (of_words.Help help) result = MatchResult result (λ answer. (answer.text.items ≡ string_bytes help) × (answer.yes ≡ true)) (λ _. ⊥)

-- what comes of what words ask for: an answer, or why that is refused; else what is told of the words
abbrev pub AnswersSaid : Offers → Result Asked WordsRefusal → List ℕ → List File → List ℕ → Result Answer RunRefusal → Type 0
AnswersSaid offers (Ok asked) text files witness result = MatchResult result (AnswersTo offers asked text files witness) (IsAskedRefusal offers asked text files)
AnswersSaid offers (Err refusal) text files witness result = TellsWords refusal result
