-- The values of a tuple, one by one.
use Rattle.std.proofs.Common.{◌++◌, List, Result, Ok}
use Rattle.language_meaning.specs.declared.name_fault.NameRefusal.{NameRefusal}
use Rattle.language_meaning.specs.Faults.{◌>>=◌}
use Rattle.language_meaning.specs.Room.{InRoom}
use Rattle.language_meaning.specs.Values.{Meant}

-- values before those that are to come
abbrev pub with_values : List Meant → Result (InRoom (List Meant)) NameRefusal → Result (InRoom (List Meant)) NameRefusal
with_values front read = read >>= λ ms. Ok (front ++ ms.0, ms.1)
