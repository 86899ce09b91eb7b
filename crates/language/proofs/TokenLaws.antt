-- The tokens of a text, lexeme by lexeme.
use Rattle.std.proofs.Common.{◌≡◌, ◌<◌, ◌≤◌, ◌+◌, ◌-◌, ◌++◌, ℕ, Bool, zero, suc, List, [], ◌∷◌, Result, Ok, Err, length, drop, take, arith, refl, sym, ap, subst, take_all, ◌∙◌, append_assoc}
use Rattle.std.specs.List.{take_while}
use Rattle.std.proofs.lemmas.Bool.Decides.{nat_tests}
use Rattle.std.proofs.lemmas.List.{drop-drop, length-drop}
use Rattle.std.proofs.lemmas.List.Folds.{length-prefix_len}
use Rattle.std.proofs.lemmas.List.Sums.{prefix_len-le-length}
use Rattle.language.specs.declared.fault.Fault.{Fault}
use Rattle.language.specs.declared.fault.Why.{Why}
use Rattle.language.specs.declared.lexer.Lexeme.TheVariants as lexemes
use Rattle.language.specs.declared.token.Kind.{Kind}
use Rattle.language.specs.declared.token.Kind.TheVariants.{Sign}
use Rattle.language.specs.Faults.{◌>>=◌}
use Rattle.language.specs.Lexemes.{lexeme_at}
use Rattle.language.specs.Places.{mark_length}
use Rattle.language.specs.Tokens.{Token, depth_after, end_tokens, tokens_from}

-- tokens that were found before those that are read
abbrev pub with_tokens : List Token → Result (List Token) Fault → Result (List Token) Fault
with_tokens front read = read >>= λ ts. Ok (front ++ ts)

-- as many pass a test from the front on as there are at most
pub length-take_while : {A : Type 0} (p : A → Bool) (xs : List A) → length (take_while p xs) ≤ length xs
length-take_while p xs = omega (arith, length-prefix_len p xs, prefix_len-le-length p xs)

one_less : (n : ℕ) → suc n - 1 ≡ n
one_less n = omega arith

-- bytes of the token before are passed over
passed : (skip at depth : ℕ) (bytes : List ℕ) → skip ≤ length bytes → tokens_from skip at depth bytes ≡ tokens_from 0 (at + skip) depth (drop skip bytes)
unfolding tokens_from
passed zero at depth bytes within = ap (λ n. tokens_from 0 n depth bytes) (omega arith)
passed (suc skip) at depth [] within = absurd (omega (arith, within))
passed (suc skip) at depth (b ∷ bs) within =
    passed skip (at + 1) depth bs (omega (arith, within)) ∙ ap (λ n. tokens_from 0 n depth (drop skip bs)) (omega arith)

-- after a blank
pub tokens_from-blank : (at depth len : ℕ) (bytes : List ℕ) → 0 < len → len ≤ length bytes → lexemes.Blank len ≡ lexeme_at depth bytes → tokens_from 0 at depth bytes ≡ tokens_from 0 (at + len) depth (drop len bytes)
unfolding tokens_from
tokens_from-blank at depth zero bytes some within is = absurd (omega (arith, some))
tokens_from-blank at depth (suc len) [] some within is = absurd (omega (arith, within))
tokens_from-blank at depth (suc len) (b ∷ bs) some within is =
    rw (tokens_from, ← is, one_less len) (passed len (at + 1) depth bs (omega (arith, within)) ∙ ap (λ n. tokens_from 0 n depth (drop len bs)) (omega arith))

-- after a token
pub tokens_from-token : (at depth : ℕ) (kind : Kind) (start end len : ℕ) (bytes : List ℕ) → 0 < len → len ≤ length bytes → lexemes.Token kind start end len ≡ lexeme_at depth bytes
    → tokens_from 0 at depth bytes ≡ (tokens_from 0 (at + len) (depth_after kind depth) (drop len bytes) >>= λ ts. Ok ((kind, record { start = at + start; end = at + end }) ∷ ts))
unfolding tokens_from
tokens_from-token at depth kind start end zero bytes some within is = absurd (omega (arith, some))
tokens_from-token at depth kind start end (suc len) [] some within is = absurd (omega (arith, within))
tokens_from-token at depth kind start end (suc len) (b ∷ bs) some within is =
    rw (tokens_from, ← is, one_less len) (ap (λ (read : Result (List Token) Fault). read >>= λ ts. Ok ((kind, record { start = at + start; end = at + end }) ∷ ts)) (passed len (at + 1) (depth_after kind depth) bs (omega (arith, within)) ∙ ap (λ n. tokens_from 0 n (depth_after kind depth) (drop len bs)) (omega arith)))

-- at a fault
pub tokens_from-fault : (at depth : ℕ) (why : Why) (bytes : List ℕ) → 0 < length bytes → lexemes.Fault why ≡ lexeme_at depth bytes → tokens_from 0 at depth bytes ≡ Err (record { at = at; why = why })
unfolding tokens_from
tokens_from-fault at depth why [] some is = absurd (omega (arith, some))
tokens_from-fault at depth why (b ∷ bs) some is = rw (tokens_from, ← is) refl

-- at the end
pub tokens_from-end : (at depth : ℕ) (bytes : List ℕ) → length bytes ≡ 0 → tokens_from 0 at depth bytes ≡ Ok (end_tokens at)
unfolding tokens_from
tokens_from-end at depth [] none = refl
tokens_from-end at depth (b ∷ bs) none = absurd (omega (arith, none))

-- one more token was found
pub with_tokens-more : (front : List Token) (t : Token) (read : Result (List Token) Fault) → with_tokens front (read >>= λ ts. Ok (t ∷ ts)) ≡ with_tokens (front ++ t ∷ []) read
with_tokens-more front t (Ok ts) = ap (λ (xs : List Token). Ok xs) (simp append_assoc)
with_tokens-more front t (Err e) = refl

-- the mark is no longer than the text
pub mark_length-le : (text : List ℕ) → mark_length text ≤ length text
mark_length-le text = grind (arith, nat_tests)

-- at most one parenthesis more is open
pub depth_after-le : (kind : Kind) (depth : ℕ) → depth_after kind depth ≤ depth + 1
depth_after-le (Sign b) depth = grind (arith, nat_tests)
depth_after-le kind depth = omega arith

-- nothing was found before the first token
pub with_tokens-none : (read : Result (List Token) Fault) → with_tokens [] read ≡ read
with_tokens-none (Ok ts) = refl
with_tokens-none (Err e) = refl

-- the bytes from a place on, as a slice from there has them
abbrev pub left : ℕ → List ℕ → List ℕ
left at text = take (length text - at) (drop at text)

left-is : (at : ℕ) (text : List ℕ) → left at text ≡ drop at text
left-is at text = take_all (length text - at) (drop at text) (omega (arith, length-drop at text))

-- there are as many as the text has from there on
pub length-left : (at : ℕ) (text : List ℕ) → length (left at text) ≡ length text - at
length-left at text = ap length (left-is at text) ∙ length-drop at text

-- a blank is passed over
pub told-blank : (text : List ℕ) (front : List Token) (at depth len : ℕ) (all : Result (List Token) Fault) → 0 < len → len ≤ length (left at text) → lexemes.Blank len ≡ lexeme_at depth (left at text)
    → with_tokens front (tokens_from 0 at depth (drop at text)) ≡ all → with_tokens front (tokens_from 0 (at + len) depth (drop (at + len) text)) ≡ all
told-blank text front at depth len all some within is told =
    ap (with_tokens front)
    (ap (tokens_from 0 (at + len) depth) (sym (drop-drop len at text)) ∙ sym (tokens_from-blank at depth len (drop at text) some (subst (λ bytes. len ≤ length bytes) (left-is at text) within) (is ∙ ap (lexeme_at depth) (left-is at text))))
    ∙ told

-- a token is found
pub told-token : (text : List ℕ) (front : List Token) (at depth : ℕ) (kind : Kind) (start end len : ℕ) (all : Result (List Token) Fault) → 0 < len → len ≤ length (left at text) → lexemes.Token kind start end len ≡ lexeme_at depth (left at text)
    → with_tokens front (tokens_from 0 at depth (drop at text)) ≡ all
    → with_tokens (front ++ (kind, record { start = at + start; end = at + end }) ∷ []) (tokens_from 0 (at + len) (depth_after kind depth) (drop (at + len) text)) ≡ all
told-token text front at depth kind start end len all some within is told =
    let token : Token = (kind, record { start = at + start; end = at + end }) in
    sym (with_tokens-more front token (tokens_from 0 (at + len) (depth_after kind depth) (drop (at + len) text)))
    ∙ ap (λ (read : Result (List Token) Fault). with_tokens front (read >>= λ ts. Ok (token ∷ ts))) (ap (tokens_from 0 (at + len) (depth_after kind depth)) (sym (drop-drop len at text)))
    ∙ ap (with_tokens front) (sym (tokens_from-token at depth kind start end len (drop at text) some (subst (λ bytes. len ≤ length bytes) (left-is at text) within) (is ∙ ap (lexeme_at depth) (left-is at text))))
    ∙ told

-- a fault ends all
pub told-fault : (text : List ℕ) (front : List Token) (at depth : ℕ) (why : Why) (all : Result (List Token) Fault) → at < length text → lexemes.Fault why ≡ lexeme_at depth (left at text)
    → with_tokens front (tokens_from 0 at depth (drop at text)) ≡ all → all ≡ Err (record { at = at; why = why })
told-fault text front at depth why all within is told =
    sym told ∙ ap (with_tokens front) (tokens_from-fault at depth why (drop at text) (omega (arith, length-drop at text)) (is ∙ ap (lexeme_at depth) (left-is at text)))

-- the text ends
pub told-end : (text : List ℕ) (front : List Token) (at depth : ℕ) (all : Result (List Token) Fault) → length text ≤ at
    → with_tokens front (tokens_from 0 at depth (drop at text)) ≡ all → all ≡ Ok (front ++ end_tokens at)
told-end text front at depth all end told = sym told ∙ ap (with_tokens front) (tokens_from-end at depth (drop at text) (omega (arith, length-drop at text)))
