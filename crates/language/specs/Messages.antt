-- Messages, from their tokens.
use Rattle.std.specs.Prelude.{ℕ, List, [], ◌∷◌, Option, Some, None, Result, Ok, drop, length, map, option_map}
use Rattle.language.specs.declared.fault.Fault.{Fault}
use Rattle.language.specs.declared.fault.Why.TheVariants as whys
use Rattle.language.specs.declared.message.MessageText.{MessageText}
use Rattle.language.specs.declared.message.Verb.{Verb}
use Rattle.language.specs.declared.message.Verb.TheVariants as verbs
use Rattle.language.specs.declared.token.Span.{Span}
use Rattle.language.specs.declared.token.Word.{Word}
use Rattle.language.specs.declared.token.Word.TheVariants.{Query, Provide, Send, Receive, Local, Times, At, Most}
use Rattle.language.specs.Faults.{◌>>=◌}
use Rattle.language.specs.Formulas.{Formula, formula_of}
use Rattle.language.specs.Fronts.{Read, at_front, named_at, rest_after_sign, number_at, fault_at_front, rest_if_sign, word_at}
use Rattle.language.specs.Lists.{many, with_front}
use Rattle.language.specs.Reading.{formula_at}
use Rattle.language.specs.Tokens.{Token}

-- a message: where it begins, what it does on which bus, its tuple, how often it counts and the most
pub record Message : Type 0 where
  pub at : ℕ
  pub verb : Verb
  pub bus : Option Span
  pub tuple : List Formula
  pub times : Option Formula
  pub at_most : Option ℕ

-- a message, without where it lies in memory
abbrev pub message_of : MessageText → Message
message_of m = record { at = m.at; verb = m.verb; bus = m.bus; tuple = map formula_of m.tuple.items; times = option_map formula_of m.times; at_most = m.at_most }

-- what a word says of the tokens behind it
abbrev pub verb_in : Word → List Token → Read Verb
verb_in Query ts = Ok (verbs.Query, drop 1 ts)
verb_in Provide ts = Ok (verbs.Provide, drop 1 ts)
verb_in Send ts = Ok (verbs.Send, drop 1 ts)
verb_in Receive ts = Ok (verbs.Receive, drop 1 ts)
verb_in w ts = fault_at_front whys.Verb ts

-- what a message does
unfoldable pub verb_at : List Token → Read Verb
verb_at ts = verb_in (word_at ts) ts

-- a bus, or none at `local`
abbrev pub bus_in : Word → List Token → Read (Option Span)
bus_in Local ts = Ok (None, drop 1 ts)
bus_in w ts = named_at whys.Bus ts >>= λ x. Ok (Some x.0, x.1)

-- the bus of a message
unfoldable pub message_bus_at : List Token → Read (Option Span)
message_bus_at ts = bus_in (word_at ts) ts

-- an expression behind a comma, or the end at a parenthesis
abbrev pub formula_in : List Token → Option (List Token) → Read (Option Formula)
formula_in ts None = rest_after_sign 41 ts >>= λ rest. Ok (None, rest)
formula_in ts (Some us) = formula_at us >>= λ x. Ok (Some x.0, x.1)

-- one more expression of a tuple, or its end
unfoldable pub more_formula : List Token → Read (Option Formula)
more_formula ts = formula_in ts (rest_if_sign 44 ts)

-- expressions between commas, up to a parenthesis
unfoldable pub tuple_at : List Token → Read (List Formula)
tuple_at ts = formula_at ts >>= λ x. with_front (x.0 ∷ []) (many more_formula (length x.1) x.1)

-- the tokens after `most`
abbrev pub most_in : Word → List Token → Result (List Token) Fault
most_in Most ts = Ok (drop 1 ts)
most_in w ts = fault_at_front whys.Most ts

-- the tokens after `most`, which has to be there
unfoldable pub most_needed : List Token → Result (List Token) Fault
most_needed ts = most_in (word_at ts) ts

-- a number behind `at most`, or none
abbrev pub most_for : Word → List Token → Read (Option ℕ)
most_for At ts = most_needed (drop 1 ts) >>= λ us. number_at us >>= λ x. Ok (Some x.0, x.1)
most_for w ts = Ok (None, ts)

-- the most that a message counts, if that is said
unfoldable pub most_at : List Token → Read (Option ℕ)
most_at ts = most_for (word_at ts) ts

-- an expression behind `times` with the most that it counts, or none
abbrev pub count_in : Word → List Token → Read (Option Formula × Option ℕ)
count_in Times ts = formula_at (drop 1 ts) >>= λ x. most_at x.1 >>= λ m. Ok ((Some x.0, m.0), m.1)
count_in w ts = Ok ((None, None), ts)

-- how often a message counts, and the most, if that is said
unfoldable pub count_at : List Token → Read (Option Formula × Option ℕ)
count_at ts = count_in (word_at ts) ts

-- the message at the front
unfoldable pub message_at : List Token → Read Message
message_at ts = do
  verb ← verb_at ts
  bus ← message_bus_at verb.1
  us ← rest_after_sign 40 bus.1
  tuple ← tuple_at us
  count ← count_at tuple.1
  Ok (record { at = at_front ts; verb = verb.0; bus = bus.0; tuple = tuple.0; times = count.0.0; at_most = count.0.1 }, count.1)
