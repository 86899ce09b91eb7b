-- How refusals of an AIR are passed on.
use Rattle.air_expressions.specs.declared.error.AirError.{AirError}
use Rattle.air_expressions.specs.declared.error.AirError.TheVariants as air
use Rattle.lookup_model.specs.declared.error.LookupError.{LookupError}
use Rattle.lookup_model.specs.declared.error.LookupError.TheVariants.{Memory, DegreeOverflow, Air}

-- out of memory and an overflow of degrees keep their names
abbrev pub from_air : AirError → LookupError
from_air air.Memory = Memory
from_air air.DegreeOverflow = DegreeOverflow
from_air e = Air e
