-- From what is told of words and of fields to what a run answers.
use Rattle.std.proofs.Common.{◌≡◌, ◌⊎◌, ℕ, List, MatchResult, Option, None, Some, Result, Ok, Err, String, Global, inl, inr, refl, subst, sym, true}
use Rattle.check_words.specs.Line.{NameList, line_app}
use Rattle.check_words.specs.Words.{IsAsked, IsRefused}
use Rattle.check_words.specs.declared.request.Asked.{Asked}
use Rattle.check_words.specs.declared.request.Task.{Task}
use Rattle.field_list.specs.Offers.{HoldsOf, Offers, challenges_in}
use Rattle.language_meaning.specs.Files.{File}
use Rattle.check_run.specs.RunRefusals.{IsRefusalIn, IsRunRefusal, IsTaskRefused}
use Rattle.check_run.specs.Runs.{AnswersIn, AnswersOver, IsAnswer, parts_of, unwritten_line}
use Rattle.program_ending.specs.Endings.{EndsAnswered}
use Rattle.check_run.specs.Told.{AnswersSaid, TellsWords}
use Rattle.check_run.specs.declared.answer.Answer.{Answer}
use Rattle.check_report.specs.declared.refusal.RunRefusal.{RunRefusal}
use Rattle.check_report.specs.declared.refusal.RunRefusal.TheVariants as run_refusal
use Rattle.check_words.specs.declared.refusal.WordsRefusal.{WordsRefusal}
use Rattle.check_words.specs.declared.refusal.WordsRefusal.TheVariants.{Memory, Told, Help}

-- what is told of them is help, or why they are refused
pub told_words : (P : Answer → Type 0) (Q : RunRefusal → Type 0) (words : WordsRefusal) (r : Result Answer RunRefusal) → TellsWords words r
    → ((help : String Global) → words ≡ Help help → (a : Answer) → a.yes ≡ true → P a)
    → ((told : String Global) → words ≡ Told told → (e : RunRefusal) → Q e)
    → Q run_refusal.Memory → MatchResult r P Q
told_words P Q Memory (Ok a) tells help told memory = absurd tells
told_words P Q Memory (Err e) tells help told memory = subst Q (sym tells) memory
told_words P Q (Told t) (Ok a) tells help told memory = absurd tells
told_words P Q (Told t) (Err e) tells help told memory = told t refl e
told_words P Q (Help t) (Ok a) tells help told memory = help t refl a tells.1
told_words P Q (Help t) (Err e) tells help told memory = absurd tells

-- what comes of words is the answer to them, or their refusal
pub answers_words : (offers : Offers) (said : Result Asked WordsRefusal) (names : NameList) (words : List (List ℕ)) (text : List ℕ) (files : List File) (witness : List ℕ) (r : Result Answer RunRefusal)
    → AnswersSaid offers said text files witness r → MatchResult said (IsAsked (line_app names) words) (IsRefused (line_app names) words)
    → MatchResult r (IsAnswer offers names words text files witness) (IsRunRefusal offers names words text files)
answers_words offers (Ok asked) names words text files witness (Ok answer) answers asks = inl (asked, asks, answers)
answers_words offers (Ok asked) names words text files witness (Err e) refusal asks = inr (inr (asked, asks, refusal))
answers_words offers (Err refusal) names words text files witness r tells refuses = told_words _ _ refusal r tells
    (λ help is answer yes. inr (help, subst (IsRefused (line_app names) words) is refuses, yes))
    (λ told is e. inr (inl (told, subst (IsRefused (line_app names) words) is refuses)))
    (inl refl)

-- what a task answers over the field with a name
pub answers_in : (offers : Offers) (name : List ℕ) (task : Task) (text : List ℕ) (files : List File) (witness : List ℕ) (r : Result Answer RunRefusal)
    → HoldsOf name (λ F K o. MatchResult r (AnswersOver o.fields text files o.number (challenges_in o) task witness) (λ e. (e ≡ run_refusal.Memory) ⊎ IsTaskRefused o.fields text files task)) offers
    → MatchResult r (AnswersIn offers name task text files witness) (IsRefusalIn offers name task text files)
answers_in offers name task text files witness (Ok answer) held = held
answers_in offers name task text files witness (Err e) held = inr held

-- there is no answer, whatever the refusal
pub no_answer : (P : Answer → Type 0) (Q : RunRefusal → Type 0) (r : Result Answer RunRefusal) → MatchResult r (λ _. ⊥) (λ _. Unit {0}) → ((e : RunRefusal) → Q e) → MatchResult r P Q
no_answer P Q (Ok answer) none refusal = absurd none
no_answer P Q (Err e) none refusal = refusal e

-- an answer is written as its parts, whose texts are known by other names
pub written_parts : {W E : Type 0} (contents : W → Option (List ℕ)) (contents_of_errors : E → Option (List ℕ)) (answer : Answer) (text line : List ℕ) (output output_after : W) (errors errors_after : E) (status : ℕ)
    → text ≡ answer.text.items → line ≡ unwritten_line
    → EndsAnswered contents contents_of_errors (record { text = text; note = None; yes = answer.yes; unwritten = Some line }) output output_after errors errors_after status
    → EndsAnswered contents contents_of_errors (parts_of answer) output output_after errors errors_after status
written_parts contents contents_of_errors answer text line output output_after errors errors_after status same_text same_line ends =
    subst (λ (l : List ℕ). EndsAnswered contents contents_of_errors (record { text = answer.text.items; note = None; yes = answer.yes; unwritten = Some l }) output output_after errors errors_after status) same_line
    (subst (λ (t : List ℕ). EndsAnswered contents contents_of_errors (record { text = t; note = None; yes = answer.yes; unwritten = Some line }) output output_after errors errors_after status) same_text ends)
