-- The shapes of AIRs, one by one.
use Rattle.std.proofs.Common.{◌++◌, List, Result, Ok}
use Rattle.language_meaning.specs.declared.table_fault.TableRefusal.{TableRefusal}
use Rattle.language_meaning.specs.Shapes.{Shape}
use Rattle.language_meaning.specs.Tables.{◌>>=◌}

-- shapes before those that are to come
abbrev pub with_shapes : List Shape → Result (List Shape) TableRefusal → Result (List Shape) TableRefusal
with_shapes front read = read >>= λ ss. Ok (front ++ ss)
