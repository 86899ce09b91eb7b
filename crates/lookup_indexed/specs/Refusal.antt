-- How refusals of an AIR are passed on.
use Rattle.air_expressions.specs.declared.error.AirError.{AirError}
use Rattle.air_expressions.specs.declared.error.AirError.TheVariants as air
use Rattle.lookup_indexed.specs.declared.error.IndexedLookupError.{IndexedLookupError}
use Rattle.lookup_indexed.specs.declared.error.IndexedLookupError.TheVariants.{Memory, Air}

-- out of memory keeps its name
abbrev pub declaration_refusal : AirError → IndexedLookupError
declaration_refusal air.Memory = Memory
declaration_refusal e = Air e
