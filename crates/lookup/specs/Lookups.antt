-- What contracts see of the lookups of one AIR.
use Rattle.std.specs.Prelude.{List}
use Rattle.air_expressions.specs.declared.layout.AirLayout.{AirLayout}
use Rattle.lookup_model.specs.Records.{LookupsFit}
use Rattle.lookup_model.specs.declared.types.Lookup.{Lookup}
use Rattle.lookup.specs.declared.lookups.Lookups.{Lookups}

-- the lookups in the order of their columns
abbrev pub lookups_of : {F : Type 0} → Lookups F → List (Lookup F)
lookups_of set = set.lookups.items

-- each layout that the lookups before fit, those after fit too
abbrev pub StillFit : {F : Type 0} → List (Lookup F) → List (Lookup F) → Type 0
StillFit before after = (layout : AirLayout) → LookupsFit layout before → LookupsFit layout after
