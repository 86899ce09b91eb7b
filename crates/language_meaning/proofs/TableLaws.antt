-- The tables of AIRs, one by one.
use Rattle.std.proofs.Common.{◌++◌, List, Result, Ok}
use Rattle.language_meaning.specs.declared.table_fault.TableRefusal.{TableRefusal}
use Rattle.language_meaning.specs.Tables.{◌>>=◌, TablesOf}

-- tables before those that are to come
abbrev pub with_tables : List TablesOf → Result (List TablesOf) TableRefusal → Result (List TablesOf) TableRefusal
with_tables front read = read >>= λ ts. Ok (front ++ ts)
