-- Columns by their names.
use Rattle.std.proofs.Common.{◌≡◌, ◌+◌, not, ℕ, cond, List, [], ◌∷◌, map, refl, ap}
use Rattle.std.specs.List.{prefix_len}
use Rattle.std.specs.Prelude.{Some, None, nat_lt, position}
use Rattle.std.specs.Str.{bytes_eq}
use Rattle.std.specs.declared.alloc.Global.{Global}
use Rattle.std.specs.declared.vec.Vec.{Vec}
use Rattle.std.proofs.lemmas.List.{length-map}
use Rattle.language_meaning.specs.Scopes.{column_number_of}

-- as many names of vectors are others as of lists
others : (name : List ℕ) (columns : List (Vec ℕ Global)) → prefix_len (λ column. not (bytes_eq column name)) (map (λ column. column.items) columns) ≡ prefix_len (λ column. not (bytes_eq column.items name)) columns
others name [] = refl
others name (column ∷ columns) = ap (λ n. cond (not (bytes_eq column.items name)) (1 + n) 0) (others name columns)

-- the place of a name among vectors is that among lists
pub place_of-items : (name : List ℕ) (columns : List (Vec ℕ Global)) → column_number_of name (map (λ column. column.items) columns) ≡ position (λ column. bytes_eq column.items name) columns
place_of-items name columns = (λ i. cond (nat_lt (others name columns i) (length-map columns (λ column. column.items) i)) (Some (others name columns i)) None)
