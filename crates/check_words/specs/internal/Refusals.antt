-- What errors of `clap` are refused as.
use Rattle.std.specs.Prelude.{◌≡◌, ◌≢◌, ⊤}
use Rattle.clap.specs.declared.error.kind.ErrorKind.{ErrorKind}
use Rattle.clap.specs.declared.error.kind.ErrorKind.TheVariants.{DisplayHelp, OutOfMemory}
use Rattle.check_words.specs.declared.refusal.WordsRefusal.{WordsRefusal}
use Rattle.check_words.specs.declared.refusal.WordsRefusal.TheVariants.{Memory, Help, Told}

-- what a kind of error comes to
abbrev pub TellsKind : ErrorKind → WordsRefusal → Type 0
TellsKind kind Memory = ⊤
TellsKind kind (Help text) = kind ≡ DisplayHelp
TellsKind kind (Told text) = (kind ≢ DisplayHelp) × (kind ≢ OutOfMemory)

-- no help is told
abbrev pub IsMistake : WordsRefusal → Type 0
IsMistake (Help text) = ⊥
IsMistake _ = ⊤
