-- AIRs over a field, as the program holds them.
use Rattle.std.specs.Prelude.{All, List}
use Rattle.air.specs.Traces.{air_traces}
use Rattle.lookup.specs.Lookups.{lookups_of}
use Rattle.lookup_debug.specs.Contributions.{Traced}
use Rattle.lookup_debug.specs.Fits.{FitTraces}
use Rattle.check_judge.specs.declared.airs.AirOver.{AirOver}

-- the lookups and the traces of an AIR
abbrev pub over_traced : {F : Type 0} → AirOver F → Traced F
over_traced a = record { traces = air_traces a.main a.preprocessed a.public_values.items; lookups = lookups_of a.lookups }

-- the lookups of an AIR fit its traces
abbrev pub IsFittingAir : {F : Type 0} → AirOver F → Type 0
IsFittingAir a = FitTraces (over_traced a).traces (over_traced a).lookups

-- so they do for each AIR
abbrev pub AreFittingAirs : {F : Type 0} → List (AirOver F) → Type 0
AreFittingAirs airs = All IsFittingAir airs
