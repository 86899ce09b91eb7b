-- How many bytes a lexeme has.
use Rattle.std.specs.Prelude.{◌<◌, ◌≤◌, ℕ}
use Rattle.language.specs.declared.lexer.Lexeme.{Lexeme}
use Rattle.language.specs.declared.lexer.Lexeme.TheVariants.{Blank, Token, Fault}

-- a lexeme has some bytes, and no more than there are
abbrev pub IsWithin : ℕ → Lexeme → Type 0
IsWithin most (Blank len) = (0 < len) × (len ≤ most)
IsWithin most (Token kind start end len) = (0 < len) × (len ≤ most) × (start ≤ end) × (end ≤ len)
IsWithin most (Fault why) = Unit {0}
