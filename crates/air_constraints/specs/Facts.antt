-- What is known of the cells of a window.
use Rattle.std.specs.Prelude.{◌≡◌, ◌⊎◌, All, List, [], ◌∷◌}
use Rattle.std.specs.declared.vec.Vec.{Vec}
use Rattle.std.specs.declared.alloc.Global.{Global}
use Rattle.field.specs.Ring.{Ring}
use Rattle.air_expressions.specs.declared.variable.SymbolicVariable.{SymbolicVariable}
use Rattle.air_expressions.specs.Meaning.{variable_value}
use Rattle.air_expressions.specs.Window.{Window}
use Rattle.air_constraints.specs.declared.facts.Facts.{Facts}
use Rattle.air_constraints.specs.declared.facts.Given.{Given}
use Rattle.air_constraints.specs.declared.term.Term.{Term}
use Rattle.air_constraints.specs.Polynomials.{product_at, sum_at}

module _ {F : Type 0} (R : Ring F) where
  -- an element that is zero or one
  abbrev pub IsBit : F → Type 0
  IsBit a = (a ≡ R.zero) ⊎ (a ≡ R.one)

  module _ (w : Window F) where
    -- each of these cells is a bit
    abbrev pub AreBits : List (SymbolicVariable F) → Type 0
    AreBits cells = All (λ v. IsBit (variable_value R w v)) cells

    -- a factor times each of these cells is zero
    abbrev pub AreApartFrom : F → List (SymbolicVariable F) → Type 0
    AreApartFrom a cells = All (λ v. R.mul a (variable_value R w v) ≡ R.zero) cells

    -- the product of any two of these cells is zero
    abbrev pub AreApart : List (SymbolicVariable F) → Type 0
    AreApart [] = Unit {0}
    AreApart (v ∷ vs) = AreApartFrom (variable_value R w v) vs × AreApart vs

    -- the product of these cells is zero
    abbrev pub IsZeroProduct : List (SymbolicVariable F) → Type 0
    IsZeroProduct cells = product_at R w cells ≡ R.zero

    -- a cell is what the sum of terms is
    abbrev pub IsGiven : Given F → Type 0
    IsGiven given = variable_value R w given.cell ≡ sum_at R w given.terms.items

    -- all of these polynomials are zero
    abbrev pub Vanish : List (Vec (Term F) Global) → Type 0
    Vanish zeros = All (λ z. sum_at R w z.items ≡ R.zero) zeros

    -- all that is known is so
    pub record AreSo (facts : Facts F) : Type 0 where
      pub bits : AreBits facts.bits.items
      pub exclusive : All (λ g. AreApart g.items) facts.exclusive.items
      pub zero_products : All (λ n. IsZeroProduct n.items) facts.zero_products.items
      pub given : All IsGiven facts.given.items
      pub zeros : Vanish facts.zeros.items
