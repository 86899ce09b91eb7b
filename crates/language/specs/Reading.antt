-- What reading tokens gives: a formula and the tokens after it, or the first fault.
use Rattle.std.specs.Prelude.{◌==◌, ◌||◌, ℕ, zero, suc, List, ◌∷◌, Option, Some, None, Ok, nat_lt, if◌then◌else◌}
use Rattle.language.specs.Faults.{◌>>=◌}
use Rattle.language.specs.Fronts.{Read, named_at, rest_after_sign, number_at, fault_at_front, rest_if_sign}
use Rattle.language.specs.Tokens.{Token}
use Rattle.language.specs.Formulas.{Formula, name, next, number, negative, sum, difference, product, power}
use Rattle.language.specs.declared.fault.Why.TheVariants as whys
use Rattle.language.specs.declared.token.Span.{Span}
use Rattle.language.specs.declared.token.Kind.TheVariants.{Name, Number}
use Rattle.language.specs.declared.token.Word.{Word}
use Rattle.language.specs.declared.token.Word.TheVariants.{Next}

-- a name, or that of the next row where parentheses stand after `next`
abbrev pub next_in : Span → List Token → Option (List Token) → Read Formula
next_in s ts None = Ok (name s, ts)
next_in s ts (Some us) = named_at whys.Column us >>= λ x. rest_after_sign 41 x.1 >>= λ rest. Ok (next x.0, rest)

-- `next` before parentheses names a column of the next row, and each other word is a name
unfoldable pub next_at : Word → Span → List Token → Read Formula
next_at Next s ts = next_in s ts (rest_if_sign 40 ts)
next_at w s ts = Ok (name s, ts)

-- a formula with what may stand after a `^`: an exponent from 1 to 64
abbrev pub power_in : Formula → List Token → Option (List Token) → Read Formula
power_in f ts None = Ok (f, ts)
power_in f ts (Some us) = number_at us >>= λ x. if (x.0 == 0) || nat_lt 64 x.0 then fault_at_front whys.Exponent us else Ok (power f x.0, x.1)

-- a formula with its exponent, if one stands after it
unfoldable pub power_at : Formula → List Token → Read Formula
power_at f ts = power_in f ts (rest_if_sign 94 ts)

-- what is to be read: a sum, a product, a factor, an atom, or what goes on with a sum or a product
pub data Part : Type 0 where
  a_sum : Part
  a_product : Part
  a_factor : Part
  an_atom : Part
  more_sum : Formula → Part
  more_product : Formula → Part

-- Reading within so many layers. A sum is a product with what goes on after it, a product likewise a
-- factor, and a factor has a minus or an atom with its exponent.
unfoldable pub reads : ℕ → Part → List Token → Read Formula
reads zero part ts = fault_at_front whys.Deep ts
reads (suc n) a_sum ts = reads n a_product ts >>= λ x. reads n (more_sum x.0) x.1
reads (suc n) a_product ts = reads n a_factor ts >>= λ x. reads n (more_product x.0) x.1
reads (suc n) (more_sum f) ts =
    elim (rest_if_sign 43 ts) [
      | Some us ↦ reads n a_product us >>= λ x. reads n (more_sum (sum f x.0)) x.1
      | None ↦
          elim (rest_if_sign 45 ts) [
            | Some us ↦ reads n a_product us >>= λ x. reads n (more_sum (difference f x.0)) x.1
            | None ↦ Ok (f, ts)
          ]
    ]
reads (suc n) (more_product f) ts =
    elim (rest_if_sign 42 ts) [
      | Some us ↦ reads n a_factor us >>= λ x. reads n (more_product (product f x.0)) x.1
      | None ↦ Ok (f, ts)
    ]
reads (suc n) a_factor ts =
    elim (rest_if_sign 45 ts) [
      | Some us ↦ reads n a_factor us >>= λ x. Ok (negative x.0, x.1)
      | None ↦ reads n an_atom ts >>= λ x. power_at x.0 x.1
    ]
reads (suc n) an_atom ((Name w, s) ∷ ts) = next_at w s ts
reads (suc n) an_atom ((Number v, s) ∷ ts) = Ok (number v s, ts)
reads (suc n) an_atom ts =
    elim (rest_if_sign 40 ts) [
      | Some us ↦ reads n a_sum us >>= λ x. rest_after_sign 41 x.1 >>= λ rest. Ok (x.0, rest)
      | None ↦ fault_at_front whys.Expression ts
    ]

-- the formula at the front, of at most 1,024 layers
abbrev pub formula_at : List Token → Read Formula
formula_at ts = reads 1024 a_sum ts
