-- The sizes of AIRs, as the program holds them.
use Rattle.lookup.specs.Lookups.{lookups_of}
use Rattle.check_judge.specs.Found.{Sized}
use Rattle.check_judge.specs.declared.sizes.SizedAir.{SizedAir}

-- the lookups and the size of an AIR
abbrev pub sized_lookups_of : {F : Type 0} → SizedAir F → Sized F
sized_lookups_of a = record { lookups = lookups_of a.lookups.now; rows = a.rows; columns = a.columns }
