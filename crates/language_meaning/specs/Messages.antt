-- What messages send and how often, over columns by their numbers.
use Rattle.std.specs.Prelude.{ℕ, List, [], ◌∷◌, Option, Some, None, Result, Ok, map}
use Rattle.language.specs.declared.message.Verb.{Verb}
use Rattle.language.specs.declared.message.Verb.TheVariants.{Query, Provide, Send, Receive}
use Rattle.language.specs.Formulas.{Formula, number as number_formula}
use Rattle.language.specs.Messages.{Message}
use Rattle.language_meaning.specs.declared.name_fault.NameRefusal.{NameRefusal}
use Rattle.language_meaning.specs.declared.name_fault.NameWhy.TheVariants.{NoWeight}
use Rattle.language_meaning.specs.declared.message.NamedMessage.{NamedMessage}
use Rattle.language_meaning.specs.Faults.{◌>>=◌, refusal_of_name}
use Rattle.language_meaning.specs.Room.{InRoom}
use Rattle.language_meaning.specs.Scopes.{NamesInScope, meaning}
use Rattle.language_meaning.specs.Values.{Meant, meant_of, negative, number}

-- what a message sends, how often, and its weight
pub record Sent : Type 0 where
  pub at : ℕ
  pub tuple : List Meant
  pub count : Meant
  pub weight : ℕ

-- a message, without where it lies in memory
abbrev pub sent_of : NamedMessage → Sent
sent_of m = record { at = m.at; tuple = map meant_of m.tuple.items; count = meant_of m.count; weight = m.weight }

-- what each formula means, in the room that those before it leave
abbrev pub all_meant : NamesInScope → List Formula → ℕ → Result (InRoom (List Meant)) NameRefusal
all_meant names [] room = Ok ([], room)
all_meant names (f ∷ fs) room = meaning names f room >>= λ x. all_meant names fs x.1 >>= λ xs. Ok (x.0 ∷ xs.0, xs.1)

-- a query and a send count with a plus, a provision and a receipt with a minus
abbrev pub signed_count : Verb → Meant → Meant
signed_count Query m = m
signed_count Send m = m
signed_count Provide m = negative m
signed_count Receive m = negative m

-- how often a message counts: once, which takes no room, or as often as is said
unfoldable pub times_of : NamesInScope → Option Formula → ℕ → Result (InRoom Meant) NameRefusal
times_of names None room = Ok (number 1, room)
times_of names (Some f) room = meaning names f room

-- how often a message counts, with its sign, which takes no room
unfoldable pub count_of : NamesInScope → Message → ℕ → Result (InRoom Meant) NameRefusal
count_of names m room = times_of names m.times room >>= λ times. Ok (signed_count m.verb times.0, times.1)

-- a count that is a number
unfoldable pub constant_of : ℕ → Option Formula → Result ℕ NameRefusal
constant_of at None = Ok 1
constant_of at (Some (number_formula n s)) = Ok n
constant_of at (Some f) = refusal_of_name NoWeight at

-- the most that is said, or a count that is a number
abbrev pub most_times_of : ℕ → Option ℕ → Option Formula → Result ℕ NameRefusal
most_times_of at (Some n) times = Ok n
most_times_of at None times = constant_of at times

-- the weight of a verb: none where a message is provided
abbrev pub weight_by : Verb → Result ℕ NameRefusal → Result ℕ NameRefusal
weight_by Provide most = Ok 0
weight_by verb most = most

-- the most that a row adds to a count by a message
unfoldable pub weight_of_message : Message → Result ℕ NameRefusal
weight_of_message m = weight_by m.verb (most_times_of m.at m.at_most m.times)

-- what a message sends, how often, and its weight; the tuple leaves room for the count
unfoldable pub meant_message : NamesInScope → Message → ℕ → Result (InRoom Sent) NameRefusal
meant_message names m room = do
  tuple ← all_meant names m.tuple room
  count ← count_of names m tuple.1
  weight ← weight_of_message m
  Ok (record { at = m.at; tuple = tuple.0; count = count.0; weight = weight }, count.1)
