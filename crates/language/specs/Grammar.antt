-- Which tokens say which formula: the grammar of expressions as a relation, apart from its reader.
use Rattle.std.specs.Prelude.{◌≡◌, ◌<◌, ◌≤◌, ◌⊎◌, ℕ, List, [], ◌∷◌, ◌++◌, None, Ok, Err}
use Rattle.language.specs.declared.fault.Why.TheVariants.{Deep}
use Rattle.language.specs.declared.token.Span.{Span}
use Rattle.language.specs.declared.token.Kind.TheVariants.{Name, Number, Sign}
use Rattle.language.specs.declared.token.Word.{Word}
use Rattle.language.specs.declared.token.Word.TheVariants.{Next}
use Rattle.language.specs.Formulas.{Formula, name, next, number, negative, sum, difference, product, power}
use Rattle.language.specs.Fronts.{Read, rest_if_sign}
use Rattle.language.specs.Tokens.{Token}

-- the four levels of the grammar
pub data Level : Type 0 where
  sums : Level
  products : Level
  factors : Level
  atoms : Level

-- These tokens say this formula. A sum is a product, or a sum and a product with + or - between
-- them; a product is a factor, or a product and a factor with * between them; a factor is an atom, one
-- with an exponent from 1 to 64 behind a ^, or a factor behind a -; and an atom is a name, a number,
-- the name of a column in parentheses behind `next`, or a sum in parentheses.
pub data Says : Level → List Token → Formula → Type 0 where
  says_name : (w : Word) (s : Span) → Says atoms ((Name w, s) ∷ []) (name s)
  says_number : (n : ℕ) (s : Span) → Says atoms ((Number n, s) ∷ []) (number n s)
  says_next : (s o t c : Span) (w : Word) → Says atoms ((Name Next, s) ∷ (Sign 40, o) ∷ (Name w, t) ∷ (Sign 41, c) ∷ []) (next t)
  says_inner : (o c : Span) (ts : List Token) (f : Formula) → Says sums ts f → Says atoms ((Sign 40, o) ∷ (ts ++ (Sign 41, c) ∷ [])) f
  says_atom : (ts : List Token) (f : Formula) → Says atoms ts f → Says factors ts f
  says_power : (s t : Span) (n : ℕ) (ts : List Token) (f : Formula) → 0 < n → n ≤ 64 → Says atoms ts f → Says factors (ts ++ (Sign 94, s) ∷ (Number n, t) ∷ []) (power f n)
  says_negative : (s : Span) (ts : List Token) (f : Formula) → Says factors ts f → Says factors ((Sign 45, s) ∷ ts) (negative f)
  says_factor : (ts : List Token) (f : Formula) → Says factors ts f → Says products ts f
  says_product : (s : Span) (ts us : List Token) (f g : Formula) → Says products ts f → Says factors us g → Says products (ts ++ (Sign 42, s) ∷ us) (product f g)
  says_one : (ts : List Token) (f : Formula) → Says products ts f → Says sums ts f
  says_sum : (s : Span) (ts us : List Token) (f g : Formula) → Says sums ts f → Says products us g → Says sums (ts ++ (Sign 43, s) ∷ us) (sum f g)
  says_difference : (s : Span) (ts us : List Token) (f g : Formula) → Says sums ts f → Says products us g → Says sums (ts ++ (Sign 45, s) ∷ us) (difference f g)

-- no token with which an expression goes on stands at the front: none of ( ^ * + -
pub record IsOver (ts : List Token) : Type 0 where
  pub no_parenthesis : rest_if_sign 40 ts ≡ None
  pub no_power : rest_if_sign 94 ts ≡ None
  pub no_product : rest_if_sign 42 ts ≡ None
  pub no_sum : rest_if_sign 43 ts ≡ None
  pub no_difference : rest_if_sign 45 ts ≡ None

-- what is read of some tokens is said by those before the rest
abbrev pub IsFound : List Token → Formula → List Token → Type 0
IsFound ts f rest = (front : List Token) × (ts ≡ front ++ rest) × Says sums front f

-- reading gives this, or an expression has too many layers
abbrev pub IsReadAs : Read Formula → Formula → List Token → Type 0
IsReadAs read f rest = (read ≡ Ok (f, rest)) ⊎ ((at : ℕ) × (read ≡ Err (record { at = at; why = Deep })))
