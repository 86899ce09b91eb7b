-- Trees as formulas, without the addresses of their boxes.
use Rattle.std.specs.Prelude.{ℕ}
use Rattle.language.specs.declared.formula.Tree.{Tree, Name, Next, Number, Negative', Sum', Difference', Product', Power'}
use Rattle.language.specs.declared.token.Span.{Span}

-- an expression over names, each with its place in the text
pub data Formula : Type 0 where
  name : Span → Formula
  next : Span → Formula
  number : ℕ → Span → Formula
  negative : Formula → Formula
  sum : Formula → Formula → Formula
  difference : Formula → Formula → Formula
  product : Formula → Formula → Formula
  power : Formula → ℕ → Formula

-- a tree as a formula
abbrev pub formula_of : Tree → Formula
formula_of (Name s) = name s
formula_of (Next s) = next s
formula_of (Number n s) = number n s
formula_of (Negative' p t) = negative (formula_of t)
formula_of (Sum' p t q u) = sum (formula_of t) (formula_of u)
formula_of (Difference' p t q u) = difference (formula_of t) (formula_of u)
formula_of (Product' p t q u) = product (formula_of t) (formula_of u)
formula_of (Power' p t n) = power (formula_of t) n
