-- What words ask for.
use Rattle.std.specs.Prelude.{◌≡◌, ◌≢◌, ◌⊎◌, ◌↔◌, ◌<◌, ◌≤◌, ◌^◌, ℕ, Bool, ⊤, List, [], Some}
use Rattle.std.specs.Prelude.{None, Option, MatchOption, IsSomeAnd, IsTrue, codes, option_map}
use Rattle.std.specs.Borrow.{Bor}
use Rattle.std.specs.Str.Parse.{IsNumeral, digits_value, without_leading_plus}
use Rattle.clap.specs.Words.{App, Row, Text, first_of, subcommand_of, fault_of, IsAmong, Kinds}
use Rattle.clap.specs.declared.error.kind.ErrorKind.{ErrorKind}
use Rattle.clap.specs.declared.error.kind.ErrorKind.TheVariants.{DisplayHelp}
use Rattle.check_words.specs.declared.request.Asked.{Asked}
use Rattle.check_words.specs.declared.request.Asked.TheVariants.{Batch, Bits}
use Rattle.check_words.specs.declared.request.BatchRequest.{BatchRequest}
use Rattle.check_words.specs.declared.request.BitsRequest.{BitsRequest}
use Rattle.check_words.specs.declared.request.ChallengeWords.{ChallengeWords}
use Rattle.check_words.specs.declared.request.Task.{Task}
use Rattle.check_words.specs.declared.request.Task.TheVariants.{Check, Plan, Pack, Show, Witness}
use Rattle.check_words.specs.declared.request.Task.TheVariants.{Accept, Any}
use Rattle.check_words.specs.declared.refusal.WordsRefusal.{WordsRefusal}
use Rattle.check_words.specs.declared.refusal.WordsRefusal.TheVariants.{Memory, Help, Told}

-- the text is this number, of 64 bits
abbrev pub IsNumber : ℕ → Text → Type 0
IsNumber n text = IsNumeral 10 (without_leading_plus text)
    × (digits_value 10 (without_leading_plus text) < 2 ^ 64)
    × (n ≡ digits_value 10 (without_leading_plus text))

-- the value of the option is this number
abbrev pub HasNumber : List Row → Text → ℕ → Type 0
HasNumber rows id n = IsSomeAnd (first_of id rows) (IsNumber n)

-- the same of an option with no default, which may stand for another number
abbrev pub HasNumberOr : List Row → Text → ℕ → ℕ → Type 0
HasNumberOr rows id other n = MatchOption (first_of id rows) (n ≡ other) (IsNumber n)

-- the value of the option is this number, or it has no value
abbrev pub HasOptionalNumber : List Row → Text → Option ℕ → Type 0
HasOptionalNumber rows id number = MatchOption number (first_of id rows ≡ None) (HasNumber rows id)

-- the value of the argument is this text
abbrev pub HasText : List Row → Text → Text → Type 0
HasText rows id text = first_of id rows ≡ Some text

-- the value of the option is this text, or it has no value
abbrev pub HasOptionalText : List Row → Text → Option (Bor Text) → Type 0
HasOptionalText rows id text = first_of id rows ≡ option_map (λ s. s.now) text

-- the flag is set exactly if this is true
abbrev pub HasFlagArgument : List Row → Text → Bool → Type 0
HasFlagArgument rows id is_set = IsTrue is_set ↔ HasText rows id (codes "true")

-- ---- of the values of a command's arguments

-- the challenges are these
abbrev pub HasChallenges : List Row → ChallengeWords → Type 0
HasChallenges rows words = HasText rows (codes "alpha") words.alpha.now
    × HasText rows (codes "beta") words.beta.now

-- the command `name` is this task of a batch
abbrev pub IsTask : Text → List Row → Task → Type 0
IsTask name rows (Check limit degree json enforced) = (name ≡ codes "check")
    × HasNumber rows (codes "limit") limit × HasNumber rows (codes "degree") degree
    × HasFlagArgument rows (codes "json") json × HasFlagArgument rows (codes "enforced") enforced
IsTask name rows (Plan degree json target enforced) = (name ≡ codes "plan")
    × HasNumber rows (codes "degree") degree × HasFlagArgument rows (codes "json") json
    × HasOptionalNumber rows (codes "target") target × HasFlagArgument rows (codes "enforced") enforced
IsTask name rows (Pack degree json) = (name ≡ codes "pack")
    × HasNumber rows (codes "degree") degree × HasFlagArgument rows (codes "json") json
IsTask name rows (Show json) = (name ≡ codes "show") × HasFlagArgument rows (codes "json") json
IsTask name rows (Witness challenges out) = (name ≡ codes "witness")
    × HasChallenges rows challenges × HasOptionalText rows (codes "out") out
IsTask name rows (Accept challenges witness) = (name ≡ codes "accept")
    × HasChallenges rows challenges × HasText rows (codes "witness") witness.now
IsTask name rows (Any challenges) = (name ≡ codes "any") × HasChallenges rows challenges

-- the command `name` is this request about a file
abbrev pub IsBatch : Text → List Row → BatchRequest → Type 0
IsBatch name rows x = HasText rows (codes "file") x.file.now × HasText rows (codes "field") x.field.now
    × HasFlagArgument rows (codes "progress") x.progress × IsTask name rows x.task

-- the command `bits` is this request
abbrev pub IsBits : List Row → BitsRequest → Type 0
IsBits rows x = HasNumber rows (codes "messages") x.messages
    × HasNumberOr rows (codes "unbalanced") x.messages x.unbalanced
    × HasNumber rows (codes "width") x.width × (x.unbalanced ≤ x.messages)
    × HasText rows (codes "field") x.field.now × HasOptionalNumber rows (codes "target") x.target
    × HasFlagArgument rows (codes "json") x.json

-- the command `name`, where its arguments have the values of rows, is this request
abbrev pub MeansRequest : Text → List Row → Asked → Type 0
MeansRequest name rows (Batch x) = IsBatch name rows x
MeansRequest name rows (Bits x) = (name ≡ codes "bits") × IsBits rows x

-- the command that was met, with the values of its arguments, is this request
abbrev pub Asks : Option (Text × List Row) → Asked → Type 0
Asks met x = IsSomeAnd met (λ p. MeansRequest p.0 p.1 x)

-- ---- of all words

-- the words are taken, and ask for this
abbrev pub IsAsked : App → List Text → Asked → Type 0
IsAsked app words x = (fault_of app words ≡ []) × Asks (subcommand_of app words) x

-- there is a mistake among the faults
abbrev pub HasMistake : Kinds → Type 0
HasMistake kinds = (k : ErrorKind) × (k ≢ DisplayHelp) × IsAmong k kinds

-- the words are taken, but the command that was met is no request
abbrev pub AsksNothing : App → List Text → Type 0
AsksNothing app words = (fault_of app words ≡ [])
    × ((x : Asked) → Asks (subcommand_of app words) x → ⊥)

-- help is told only if it was asked for, and a mistake only if there is one, or the command that
-- was met is no request
abbrev pub IsRefused : App → List Text → WordsRefusal → Type 0
IsRefused app words Memory = ⊤
IsRefused app words (Help text) = IsAmong DisplayHelp (fault_of app words)
IsRefused app words (Told text) = HasMistake (fault_of app words) ⊎ AsksNothing app words
