-- Steps from what `clap` found to a request.
use Rattle.std.specs.Prelude.{List, Option, MatchOption}
use Rattle.clap.specs.Words.{Row, Text}
use Rattle.check_words.specs.Words.{Asks, IsTask}
use Rattle.check_words.specs.declared.request.Asked.{Asked}
use Rattle.check_words.specs.declared.request.Task.{Task}

-- the task of a batch that a command with these values is, if it is one
abbrev pub ReadsTask : Text → List Row → Option Task → Type 0
ReadsTask name rows o = MatchOption o ((t : Task) → IsTask name rows t → ⊥) (IsTask name rows)

-- the request that a command that was met is, if it is one
abbrev pub ReadsMet : Option (Text × List Row) → Option Asked → Type 0
ReadsMet met o = MatchOption o ((x : Asked) → Asks met x → ⊥) (Asks met)
