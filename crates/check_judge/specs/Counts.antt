-- What a text says of how often messages count: which are queries, and the most that each counts on a row.
use Rattle.std.specs.Prelude.{◌++◌, ℕ, Bool, true, false, List, [], ◌∷◌, get_or, map}
use Rattle.language.specs.Items.{Item, Placed}
use Rattle.language.specs.Items as items
use Rattle.language.specs.Messages.{Message}
use Rattle.language.specs.declared.message.Verb.{Verb}
use Rattle.language.specs.declared.message.Verb.TheVariants.{Provide}
use Rattle.check_judge.specs.declared.counts.SaidCount.{SaidCount}

-- all messages are queries, but those that are provided
abbrev pub is_query : Verb → Bool
is_query Provide = false
is_query verb = true

-- what is said of how often a message counts
abbrev pub count_of : Message → SaidCount
count_of m = record { is_query = is_query m.verb; at_most = m.at_most }

-- the same of each message of an item, if it has a lookup
abbrev pub counts_at : Item → List (List SaidCount)
counts_at (items.trace s) = []
counts_at (items.preprocessed s) = []
counts_at (items.lookups s) = []
counts_at (items.height n) = []
counts_at (items.columns ss) = []
counts_at (items.public s n) = []
counts_at (items.letting s f) = []
counts_at (items.asserted f) = []
counts_at (items.asserted_bool f) = []
counts_at (items.message m) = (count_of m ∷ []) ∷ []
counts_at (items.together ps) = map (λ p. count_of p.message) ps ∷ []
counts_at (items.exclusive ps) = map (λ p. count_of p.message) ps ∷ []

-- the same of each lookup of some items
abbrev pub counts_in : List Placed → List (List SaidCount)
counts_in [] = []
counts_in (p ∷ ps) = counts_at p.item ++ counts_in ps

-- the same of the messages of the lookup with this number
abbrev pub counts_for : List (List SaidCount) → ℕ → List SaidCount
counts_for counts number = get_or counts number []

-- which of these messages are queries
abbrev pub queries_of : List SaidCount → List Bool
queries_of counts = map (λ c. c.is_query) counts
