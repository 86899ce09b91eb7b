-- The tokens of a text.
use Rattle.std.specs.Prelude.{◌+◌, ◌-◌, ◌==◌, ℕ, zero, suc, List, [], ◌∷◌, Result, Ok, Err, drop, if◌then◌else◌}
use Rattle.language.specs.declared.fault.Fault.{Fault}
use Rattle.language.specs.declared.lexer.Lexeme.TheVariants as lexemes
use Rattle.language.specs.declared.token.Span.{Span}
use Rattle.language.specs.declared.token.Kind.{Kind}
use Rattle.language.specs.declared.token.Kind.TheVariants.{Sign, Line, End}
use Rattle.language.specs.Faults.{◌>>=◌}
use Rattle.language.specs.Lexemes.{lexeme_at}
use Rattle.language.specs.Places.{mark_length}

-- a token and its bytes in the text
abbrev pub Token : Type 0
Token = Kind × Span

-- how many parentheses are open after a token
abbrev pub depth_after : Kind → ℕ → ℕ
depth_after (Sign b) depth = if b == 40 then depth + 1 else if b == 41 then depth - 1 else depth
depth_after kind depth = depth

-- the end of a text at this place: that of its last line, and of all
abbrev pub end_tokens : ℕ → List Token
end_tokens at = (Line, record { start = at; end = at }) ∷ (End, record { start = at; end = at }) ∷ []

-- The tokens of some bytes that begin at this place, within so many open parentheses. The first
-- bytes, as many as `skip` says, are of the token or the blank before.
unfoldable pub tokens_from : ℕ → ℕ → ℕ → List ℕ → Result (List Token) Fault
tokens_from skip at depth [] = Ok (end_tokens at)
tokens_from (suc skip) at depth (b ∷ bs) = tokens_from skip (at + 1) depth bs
tokens_from zero at depth (b ∷ bs) =
    elim (lexeme_at depth (b ∷ bs)) [
      | lexemes.Blank len ↦ tokens_from (len - 1) (at + 1) depth bs
      | lexemes.Token kind start end len ↦ tokens_from (len - 1) (at + 1) (depth_after kind depth) bs >>= λ ts. Ok ((kind, record { start = at + start; end = at + end }) ∷ ts)
      | lexemes.Fault why ↦ Err (record { at = at; why = why })
    ]

-- the tokens of a text, after its byte-order mark if it has one
unfoldable pub tokens_of : List ℕ → Result (List Token) Fault
tokens_of text = tokens_from 0 (mark_length text) 0 (drop (mark_length text) text)
