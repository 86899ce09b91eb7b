-- What lookups contribute to the balance of tuples.
use Rattle.std.specs.Prelude.{ℕ, All, Bool, List, Option, None, Some, map, not}
use Rattle.std.specs.List.{filter, flat_map, range_with_len, zip}
use Rattle.std.specs.Option.{option_copied}
use Rattle.field.specs.Ring.{Ring}
use Rattle.air_expressions.specs.Window.{Window}
use Rattle.air.specs.Traces.{AirTraces, HaveOneHeight, air_traces, height_of, layout_of, window_of}
use Rattle.lookup_model.specs.Message.{Message}
use Rattle.lookup_model.specs.Records.{LookupsFit}
use Rattle.lookup_model.specs.Sent.{branches_at, flags_at}
use Rattle.lookup_model.specs.declared.types.Lookup.{Lookup}
use Rattle.lookup_debug.specs.declared.fault.Location.{Location}
use Rattle.lookup_debug.specs.declared.instance.LookupDebugInstance.{LookupDebugInstance}

-- the lookups of an AIR with its traces
pub record Traced (F : Type 0) : Type 0 where
  pub traces : AirTraces F
  pub lookups : List (Lookup F)

-- those that a value of the program holds
abbrev pub traced_of : {F : Type 0} → LookupDebugInstance F → Traced F
traced_of i = record {
  traces = air_traces i.main_trace.now (option_copied i.preprocessed_trace) i.public_values.now;
  lookups = i.lookups.now;
}

-- The lookups fit the traces and the public values, and a preprocessed trace is as high as the main
-- trace.
pub record IsTracedFitting {F : Type 0} (traced : Traced F) : Type 0 where
  pub fit : LookupsFit (layout_of traced.traces) traced.lookups
  pub heights : HaveOneHeight traced.traces

-- each of these AIRs is so
abbrev pub AreFitting : {F : Type 0} → List (LookupDebugInstance F) → Type 0
AreFitting is = All (λ i. IsTracedFitting (traced_of i)) is

-- where a tuple is sent: the index of the AIR in its list, of the lookup in its AIR, and the row
pub record SentLocation : Type 0 where
  pub instance : ℕ
  pub lookup : ℕ
  pub row : ℕ

-- the location that a value of the program holds
abbrev pub location_of : Location → SentLocation
location_of l = record { instance = l.instance; lookup = l.lookup; row = l.row }

-- a tuple, how much of it is sent, and where
pub record Contribution (F : Type 0) : Type 0 where
  pub tuple : List F
  pub amount : F
  pub location : SentLocation

-- the tuples of branches, each with its amount
abbrev pub contributions_from : {F : Type 0} → SentLocation → List (Message F) → List F → List (Contribution F)
contributions_from location branches amounts =
    map (λ b. record { tuple = b.0.key.tuple; amount = b.1; location = location }) (zip branches amounts)

module _ {F : Type 0} (R : Ring F) where
  -- how much of each branch is sent: flag times count if there are flags, whatever they are
  abbrev pub amounts : Option (List F) → List (Message F) → List F
  amounts None branches = map (λ m. m.multiplicity) branches
  amounts (Some flags) branches = map (λ b. R.mul b.0 b.1.multiplicity) (zip flags branches)

  -- those of some contributions that are not zero
  abbrev pub nonzero : (F → F → Bool) → List (Contribution F) → List (Contribution F)
  nonzero eq cs = filter (λ c. not (eq c.amount R.zero)) cs

  -- what a lookup contributes at a window
  abbrev pub contributions_at : (F → F → Bool) → SentLocation → Window F → Lookup F → List (Contribution F)
  contributions_at eq location w lookup =
      let branches = branches_at R w 0 lookup in nonzero eq (contributions_from location branches (amounts (flags_at R w lookup) branches))

  -- those of a lookup on a row of the traces of its AIR
  abbrev pub contributions_on : (F → F → Bool) → ℕ → ℕ → Traced F → Lookup F → ℕ → List (Contribution F)
  contributions_on eq instance index traced lookup row =
      contributions_at eq (record { instance = instance; lookup = index; row = row }) (window_of traced.traces row) lookup

  -- and on all rows
  abbrev pub contributions_of : (F → F → Bool) → ℕ → ℕ → Traced F → Lookup F → List (Contribution F)
  contributions_of eq instance index traced lookup =
      flat_map (contributions_on eq instance index traced lookup) (range_with_len 0 (height_of traced.traces))
