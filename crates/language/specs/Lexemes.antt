-- What stands at the front of some bytes: a token, bytes that are none, or a fault.
use Rattle.std.specs.Prelude.{◌+◌, ◌==◌, ◌&&◌, ◌||◌, not, ℕ, Bool, List, [], ◌∷◌, codes, length, take, drop, nat_le, nat_lt, slice_index, if◌then◌else◌}
use Rattle.std.specs.List.{take_while}
use Rattle.std.specs.Char.{is_ascii_digit}
use Rattle.std.specs.Str.{bytes_eq}
use Rattle.language.specs.declared.fault.Why.TheVariants.{Unclosed, Strange, LongNumber}
use Rattle.language.specs.declared.lexer.Lexeme.{Lexeme}
use Rattle.language.specs.declared.lexer.Lexeme.TheVariants as lexemes
use Rattle.language.specs.declared.number.Decimal.{Decimal}
use Rattle.language.specs.declared.number.Decimal.TheVariants.{Value, Large, Other as no_number}
use Rattle.language.specs.declared.token.Kind.TheVariants.{Name, Number, Quoted, Sign, Line}
use Rattle.language.specs.declared.token.Word.{Word}
use Rattle.language.specs.declared.token.Word.TheVariants as words
use Rattle.language.specs.Numbers.{decimal_of}

-- a space, a tab or a CR
abbrev pub is_blank : ℕ → Bool
is_blank b = (b == 32) || ((b == 9) || (b == 13))

-- a letter or an underscore
abbrev pub begins_name : ℕ → Bool
begins_name b = (nat_le 97 b && nat_le b 122) || ((nat_le 65 b && nat_le b 90) || (b == 95))

-- a letter, an underscore, a digit, a point or a bracket
abbrev pub continues_name : ℕ → Bool
continues_name b = begins_name b || (is_ascii_digit b || ((b == 46) || ((b == 91) || (b == 93))))

-- one of ( ) { } , + - * ^ =
abbrev pub is_sign : ℕ → Bool
is_sign b = ((b == 40) || ((b == 41) || ((b == 123) || ((b == 125) || (b == 44))))) || ((b == 43) || ((b == 45) || ((b == 42) || ((b == 94) || (b == 61)))))

-- how many bytes stand before the end of the line
abbrev pub line_length : List ℕ → ℕ
line_length bytes = length (take_while (λ b. not (b == 10)) bytes)

-- how many bytes stand before this quote or the end of the line
abbrev pub quoted_length : ℕ → List ℕ → ℕ
quoted_length quote bytes = length (take_while (λ b. not (b == quote) && not (b == 10)) bytes)

-- how many digits stand at the front
abbrev pub number_length : List ℕ → ℕ
number_length bytes = length (take_while is_ascii_digit bytes)

-- how many bytes at the front go on with a name
abbrev pub name_length : List ℕ → ℕ
name_length bytes = length (take_while continues_name bytes)

-- the words of messages
unfoldable pub message_word : List ℕ → Word
message_word name =
    if bytes_eq name (codes "query") then words.Query
    else if bytes_eq name (codes "provide") then words.Provide
    else if bytes_eq name (codes "send") then words.Send
    else if bytes_eq name (codes "receive") then words.Receive
    else if bytes_eq name (codes "local") then words.Local
    else if bytes_eq name (codes "times") then words.Times
    else if bytes_eq name (codes "at") then words.At
    else if bytes_eq name (codes "most") then words.Most
    else if bytes_eq name (codes "together") then words.Together
    else if bytes_eq name (codes "exclusive") then words.Exclusive
    else if bytes_eq name (codes "when") then words.When
    else words.Other

-- what a name means where the grammar asks for a word
unfoldable pub word_of : List ℕ → Word
word_of name =
    if bytes_eq name (codes "bus") then words.Bus
    else if bytes_eq name (codes "air") then words.Air
    else if bytes_eq name (codes "trace") then words.Trace
    else if bytes_eq name (codes "preprocessed") then words.Preprocessed
    else if bytes_eq name (codes "lookups") then words.Lookups
    else if bytes_eq name (codes "height") then words.Height
    else if bytes_eq name (codes "columns") then words.Columns
    else if bytes_eq name (codes "public") then words.Public
    else if bytes_eq name (codes "let") then words.Let
    else if bytes_eq name (codes "assert") then words.Assert
    else if bytes_eq name (codes "bool") then words.Bool
    else if bytes_eq name (codes "next") then words.Next
    else message_word name

-- a line end is a token outside parentheses
abbrev pub line_end_at : ℕ → Lexeme
line_end_at depth = if depth == 0 then lexemes.Token Line 0 0 1 else lexemes.Blank 1

-- what a quote begins, by the bytes after it: up to the next such quote on its line
abbrev pub quoted_in : ℕ → List ℕ → Lexeme
quoted_in quote rest =
    if nat_lt (quoted_length quote rest) (length rest) && (slice_index rest (quoted_length quote rest) == quote)
    then lexemes.Token (if quote == 34 then Quoted else Name words.Other) 1 (1 + quoted_length quote rest) (2 + quoted_length quote rest)
    else lexemes.Fault Unclosed

-- the number of so many bytes
abbrev pub number_for : ℕ → Decimal → Lexeme
number_for len (Value n) = lexemes.Token (Number n) 0 len len
number_for len Large = lexemes.Fault LongNumber
number_for len no_number = lexemes.Fault LongNumber

-- the number that the digits at the front of some bytes write
abbrev pub number_in : List ℕ → Lexeme
number_in bytes = number_for (1 + number_length (drop 1 bytes)) (decimal_of (take (1 + number_length (drop 1 bytes)) bytes))

-- the name of so many bytes
abbrev pub name_for : ℕ → List ℕ → Lexeme
name_for len bytes = lexemes.Token (Name (word_of (take len bytes))) 0 len len

-- the name at the front of some bytes
abbrev pub name_in : List ℕ → Lexeme
name_in bytes = name_for (1 + name_length (drop 1 bytes)) bytes

-- what begins with this byte and those after it, within so many open parentheses
abbrev pub lexeme_of : ℕ → ℕ → List ℕ → Lexeme
lexeme_of depth b bs =
    if is_blank b then lexemes.Blank 1
    else if b == 10 then line_end_at depth
    else if b == 35 then lexemes.Blank (1 + line_length bs)
    else if (b == 34) || (b == 96) then quoted_in b bs
    else if is_ascii_digit b then number_in (b ∷ bs)
    else if begins_name b then name_in (b ∷ bs)
    else if is_sign b then lexemes.Token (Sign b) 0 1 1
    else lexemes.Fault Strange

-- what stands at the front of some bytes, within so many open parentheses
unfoldable pub lexeme_at : ℕ → List ℕ → Lexeme
lexeme_at depth [] = lexemes.Fault Strange
lexeme_at depth (b ∷ bs) = lexeme_of depth b bs
