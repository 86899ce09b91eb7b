-- Values over columns by their numbers, without the addresses of their boxes.
use Rattle.std.specs.Prelude.{◌+◌, ℕ, zero, suc, max}
use Rattle.language_meaning.specs.declared.value.Value.{Value, Main, Preprocessed, Public, FirstRow, LastRow, Transition, Number, Negative', Sum', Difference', Product'}

-- an expression over cells, public values, selectors and numbers; of a cell the row, 0 or 1, and the column
pub data Meant : Type 0 where
  main : ℕ → ℕ → Meant
  preprocessed : ℕ → ℕ → Meant
  public : ℕ → Meant
  first_row : Meant
  last_row : Meant
  transition : Meant
  number : ℕ → Meant
  negative : Meant → Meant
  sum : Meant → Meant → Meant
  difference : Meant → Meant → Meant
  product : Meant → Meant → Meant

-- what a value means
abbrev pub meant_of : Value → Meant
meant_of (Main offset column) = main offset column
meant_of (Preprocessed offset column) = preprocessed offset column
meant_of (Public index) = public index
meant_of FirstRow = first_row
meant_of LastRow = last_row
meant_of Transition = transition
meant_of (Number n) = number n
meant_of (Negative' p v) = negative (meant_of v)
meant_of (Sum' p v q w) = sum (meant_of v) (meant_of w)
meant_of (Difference' p v q w) = difference (meant_of v) (meant_of w)
meant_of (Product' p v q w) = product (meant_of v) (meant_of w)

-- a value times itself so often
abbrev pub powers : ℕ → Meant → Meant
powers zero m = m
powers (suc n) m = product (powers n m) m

-- how many nodes a value has
abbrev pub node_count_of : Meant → ℕ
node_count_of (main offset column) = 1
node_count_of (preprocessed offset column) = 1
node_count_of (public index) = 1
node_count_of first_row = 1
node_count_of last_row = 1
node_count_of transition = 1
node_count_of (number n) = 1
node_count_of (negative m) = node_count_of m + 1
node_count_of (sum m n) = node_count_of m + node_count_of n + 1
node_count_of (difference m n) = node_count_of m + node_count_of n + 1
node_count_of (product m n) = node_count_of m + node_count_of n + 1

-- how many layers a value has: one for each operator or sign over what is deepest
abbrev pub layers_of : Meant → ℕ
layers_of (main offset column) = 1
layers_of (preprocessed offset column) = 1
layers_of (public index) = 1
layers_of first_row = 1
layers_of last_row = 1
layers_of transition = 1
layers_of (number n) = 1
layers_of (negative m) = layers_of m + 1
layers_of (sum m n) = max (layers_of m) (layers_of n) + 1
layers_of (difference m n) = max (layers_of m) (layers_of n) + 1
layers_of (product m n) = max (layers_of m) (layers_of n) + 1
