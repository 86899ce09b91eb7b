-- Faults of the rows around a range, under their rows in the whole trace.
use Rattle.std.specs.Prelude.{◌+◌, ◌-◌, ◌^◌, ℕ, min}
use Rattle.lookup_model.specs.declared.error.LookupError.{LookupError}
use Rattle.lookup_model.specs.declared.error.LookupError.TheVariants.{VanishingDenominator, FlagNotBoolean, FlagsNotExclusive}

-- the row of the whole trace, where row `from` of those around is row `to`; as far as 64 bits go
abbrev pub row_in_whole : ℕ → ℕ → ℕ → ℕ
row_in_whole from to row = min ((row - from) + to) (2 ^ 64 - 1)

-- a fault under its row in the whole trace
abbrev pub renumbered_fault : ℕ → ℕ → LookupError → LookupError
renumbered_fault from to (VanishingDenominator row lookup) = VanishingDenominator (row_in_whole from to row) lookup
renumbered_fault from to (FlagNotBoolean row lookup) = FlagNotBoolean (row_in_whole from to row) lookup
renumbered_fault from to (FlagsNotExclusive row lookup) = FlagsNotExclusive (row_in_whole from to row) lookup
renumbered_fault from to error = error
