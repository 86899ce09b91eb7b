-- What stands at the front of some tokens.
use Rattle.std.specs.Prelude.{◌==◌, ℕ, Bool, true, false, List, [], ◌∷◌, Option, Some, None, Result, Ok, Err, if◌then◌else◌}
use Rattle.language.specs.declared.fault.Fault.{Fault}
use Rattle.language.specs.declared.fault.Why.{Why}
use Rattle.language.specs.declared.fault.Why.TheVariants as whys
use Rattle.language.specs.declared.token.Span.{Span}
use Rattle.language.specs.declared.token.Kind.TheVariants.{Name, Number, Quoted, Sign, Line, End}
use Rattle.language.specs.declared.token.Word.{Word}
use Rattle.language.specs.declared.token.Word.TheVariants.{Other}
use Rattle.language.specs.Tokens.{Token}

-- a value and the tokens after it, or the first fault
abbrev pub Read : Type 0 → Type 0
Read A = Result (A × List Token) Fault

-- where the first of some tokens begins
abbrev pub at_front : List Token → ℕ
at_front [] = 0
at_front (t ∷ ts) = t.1.start

-- the fault at the first of some tokens
abbrev pub fault_at_front : {A : Type 0} → Why → List Token → Result A Fault
fault_at_front why ts = Err (record { at = at_front ts; why = why })

-- the tokens after a sign, if they begin with it
abbrev pub rest_if_sign : ℕ → List Token → Option (List Token)
rest_if_sign sign ((Sign b, s) ∷ ts) = if b == sign then Some ts else None
rest_if_sign sign ts = None

-- a value that has to be there
abbrev pub value_or_fault : {A : Type 0} → Why → List Token → Option A → Result A Fault
value_or_fault why ts None = fault_at_front why ts
value_or_fault why ts (Some x) = Ok x

-- the tokens after a sign, which has to be there
abbrev pub rest_after_sign : ℕ → List Token → Result (List Token) Fault
rest_after_sign sign ts = value_or_fault (whys.Sign sign) ts (rest_if_sign sign ts)

-- the number at the front, which has to be there
abbrev pub number_at : List Token → Read ℕ
number_at ((Number n, s) ∷ ts) = Ok (n, ts)
number_at ts = fault_at_front whys.Number ts

-- the name at the front, which has to be there
abbrev pub named_at : Why → List Token → Read Span
named_at why ((Name w, s) ∷ ts) = Ok (s, ts)
named_at why ts = fault_at_front why ts

-- the text in double quotes at the front, which has to be there
abbrev pub quoted_at : List Token → Read Span
quoted_at ((Quoted, s) ∷ ts) = Ok (s, ts)
quoted_at ts = fault_at_front whys.File ts

-- the word at the front, and `Other` where none is
abbrev pub word_at : List Token → Word
word_at ((Name w, s) ∷ ts) = w
word_at ts = Other

-- whether the text ends
abbrev pub is_end : List Token → Bool
is_end ((End, s) ∷ ts) = true
is_end ts = false

-- the tokens after the end of a line, which has to be there
abbrev pub line_needed : List Token → Result (List Token) Fault
line_needed ((Line, s) ∷ ts) = Ok ts
line_needed ts = fault_at_front whys.Line ts

-- the tokens after any ends of lines
abbrev pub after_lines : List Token → List Token
after_lines ((Line, s) ∷ ts) = after_lines ts
after_lines ts = ts
