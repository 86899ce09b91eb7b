-- The AIRs of a batch, as contracts see them.
use Rattle.std.specs.Prelude.{◌≡◌, ◌<◌, ℕ, List, All, length, map}
use Rattle.std.specs.Box.{boxed_slice_items}
use Rattle.std.specs.Option.{option_copied}
use Rattle.air.specs.Traces.{AirTraces, HaveOneHeight, air_traces, height_of, layout_of}
use Rattle.lookup_model.specs.Records.{LookupsFit}
use Rattle.lookup_model.specs.declared.challenges.Challenges.{Challenges}
use Rattle.lookup_model.specs.declared.types.Lookup.{Lookup}
use Rattle.lookup_model.specs.declared.instance.BatchInstance.{BatchInstance}

-- one AIR of a batch: its lookups with an id for each, and its traces
pub record Instance (F : Type 0) : Type 0 where
  pub lookups : List (Lookup F)
  pub traces : AirTraces F
  pub ids : List ℕ

-- the AIR that a value of the program holds
abbrev pub instance_of : {F : Type 0} → BatchInstance F → Instance F
instance_of b = record {
  lookups = b.lookups.now;
  traces = air_traces b.main.now (option_copied b.preprocessed) b.public_values.now;
  ids = b.ids.now;
}

-- the AIRs of a batch
abbrev pub instances_of : {F : Type 0} → List (BatchInstance F) → List (Instance F)
instances_of bs = map instance_of bs

-- The lookups fit the traces, the traces have one height, which is not zero if there are lookups, and
-- there is an id for each lookup.
pub record IsFitting {F : Type 0} (instance : Instance F) : Type 0 where
  pub fit : LookupsFit (layout_of instance.traces) instance.lookups
  pub heights : HaveOneHeight instance.traces
  pub nonempty : 0 < length instance.lookups → 0 < height_of instance.traces
  pub ids : length instance.ids ≡ length instance.lookups

-- each AIR of a batch is fitting
abbrev pub InstancesFit : {F : Type 0} → List (BatchInstance F) → Type 0
InstancesFit bs = All (λ b. IsFitting (instance_of b)) bs

-- there is an id for each lookup of each AIR
abbrev pub HaveIds : {F : Type 0} → List (BatchInstance F) → Type 0
HaveIds bs = All (λ b. length b.ids.now ≡ length b.lookups.now) bs

-- each id of an AIR has a prefix
abbrev pub HasPrefixes : {F K : Type 0} → Challenges K → BatchInstance F → Type 0
HasPrefixes challenges b = All (λ id. id < length (boxed_slice_items challenges.bus_prefix)) b.ids.now

-- each id of each AIR of a batch has a prefix
abbrev pub HavePrefixes : {F K : Type 0} → Challenges K → List (BatchInstance F) → Type 0
HavePrefixes challenges bs = All (HasPrefixes challenges) bs
