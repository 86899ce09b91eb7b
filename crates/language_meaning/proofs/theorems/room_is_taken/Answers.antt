use Rattle.language_meaning.proofs.RoomLaws.{meaning_layers, meaning_takes}
use Rattle.language_meaning.proofs.theorems.room_is_taken.Goals as goal

pub returns-clause-nodes : goal.returns-clause-nodes
returns-clause-nodes c = λ names f room rest m e. meaning_takes names f room rest m e

pub returns-clause-layers : goal.returns-clause-layers
returns-clause-layers c = λ names f room rest m e. meaning_layers names f room rest m e
