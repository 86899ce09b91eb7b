-- What the debug check answers from tables of numbers.
use Rattle.std.specs.Prelude.{◌<◌, ◌≡◌, ◌≢◌, ◌⊎◌, ℕ, List, decimal, length, map}
use Rattle.std.specs.List.{AllZip, zip}
use Rattle.std.specs.String.{string_bytes}
use Rattle.std.specs.declared.alloc.Global.{Global}
use Rattle.std.specs.declared.string.String.{String}
use Rattle.std.specs.declared.vec.Vec.{Vec}
use Rattle.field.specs.Residue.{Residue}
use Rattle.air_expressions.specs.Faults.{HasFirstFault}
use Rattle.field.specs.Extension.{Extension}
use Rattle.field_monty.specs.Quartic.{Quartic}
use Rattle.air.specs.Traces.{HaveOneHeight, layout_of}
use Rattle.lookup.specs.Lookups.{lookups_of}
use Rattle.lookup.specs.declared.lookups.Lookups.{Lookups}
use Rattle.lookup_debug.specs.Contributions.{AreFitting, IsTracedFitting, Traced, traced_of}
use Rattle.lookup_debug.specs.FaultText.{fault_text}
use Rattle.lookup_debug.specs.Mismatch.{AllBalance, IsMismatch}
use Rattle.lookup_debug.specs.declared.fault.LookupFault.{LookupFault}
use Rattle.lookup_debug.specs.declared.instance.LookupDebugInstance.{LookupDebugInstance}
use Rattle.lookup_model.specs.Records.{LookupsFit}
use Rattle.c_tables.specs.Tables.{TablesEncode}
use Rattle.c_tables.specs.declared.tables.Tables.{Tables}
use Rattle.c_tables.specs.declared.traces.ReadTraces.{ReadTraces}
use Rattle.c_tables.specs.declared.traces.Traces.{Traces}
use Rattle.c_calls.specs.Inputs.{view_of_read}
use Rattle.c_calls.specs.BatchTables.{AreTracesOfTables, AreTablesOfSet, IsTracesOfTablesRefusal, IsSetOfTablesRefusal}
use Rattle.c_calls.specs.declared.fault.Fault.{Fault}
use Rattle.c_calls.specs.declared.fault.Fault.TheVariants.{Heights, Length, Memory, Misfit, Mismatch}
use Rattle.c_calls.specs.declared.codes.Part.TheVariants.{Batch}

-- the tables of each AIR encode the lookups of its set, and no others
abbrev pub AreDebugSets : {p : ℕ} → List Tables → List (Lookups (Residue p)) → Type 0
AreDebugSets airs sets = AllZip (λ tables set. TablesEncode tables (lookups_of set)) airs sets

-- the refusal of the first AIR that has one; or memory runs out
abbrev pub IsDebugSetsRefusal : ℕ → List Tables → Fault → Type 0
IsDebugSetsRefusal p airs fault = (fault ≡ Memory) ⊎ HasFirstFault (AreTablesOfSet p) (λ index tables. IsSetOfTablesRefusal p index tables fault) airs

-- the lookups of an AIR with its traces
abbrev pub debug_traced : {F : Type 0} → Lookups F → ReadTraces F → Traced F
debug_traced set traces = record { traces = view_of_read traces; lookups = lookups_of set }

-- those of all AIRs
abbrev pub all_debug_traced : {F : Type 0} → List (Lookups F) → List (ReadTraces F) → List (Traced F)
all_debug_traced sets traces = map (λ t. debug_traced t.0 t.1) (zip sets traces)

-- what a debug check over them is given
abbrev pub AreDebugInstances : {F : Type 0} → List (Lookups F) → List (ReadTraces F) → Vec (LookupDebugInstance F) Global → Type 0
AreDebugInstances sets traces v = (map traced_of v.items ≡ all_debug_traced sets traces) × AreFitting v.items

-- the lookups of an AIR do not fit its traces, or the preprocessed trace has another height
abbrev pub IsDebugMisfit : {F : Type 0} → ℕ → Traced F → Fault → Type 0
IsDebugMisfit air t fault =
    ((fault ≡ Misfit air) × (¬ LookupsFit (layout_of t.traces) t.lookups))
    ⊎ ((fault ≡ Heights air) × (¬ HaveOneHeight t.traces))

-- the misfit of the first AIR that does not fit
abbrev pub IsFirstDebugMisfit : {F : Type 0} → List (Traced F) → Fault → Type 0
IsFirstDebugMisfit ts fault = HasFirstFault IsTracedFitting (λ index traced. IsDebugMisfit index traced fault) ts

-- the text of an element
abbrev pub debug_element_text : {p : ℕ} → Residue p → List ℕ
debug_element_text x = decimal x.value

module _ {p : ℕ} (E : Extension (Residue p) (Quartic (Residue p))) where
  -- all tuples of these AIRs balance
  abbrev pub DebugChecksTraced : List (Traced (Residue p)) → Type 0
  DebugChecksTraced ts = AllBalance E.base E.base_eq ts

  -- the first mismatch, and its text; or memory runs out
  abbrev pub IsDebugMismatch : List (Traced (Residue p)) → Fault → Type 0
  IsDebugMismatch ts fault =
      (fault ≡ Memory)
      ⊎ ((e : LookupFault (Residue p)) × (line : String Global) × (fault ≡ Mismatch line) × IsMismatch E.base E.base_eq debug_element_text ts e × (string_bytes line ≡ fault_text debug_element_text e))

module _ {p : ℕ} (positive : 0 < p) (E : Extension (Residue p) (Quartic (Residue p))) where
  -- all tuples balance that the tables encode
  pub record DebugChecksTables (airs : List Tables) (traces : List Traces) : Type 0 where
    pub sets : List (Lookups (Residue p))
    pub sets_are : AreDebugSets airs sets
    pub all : List (ReadTraces (Residue p))
    pub all_are : AreTracesOfTables positive traces all
    pub as_many : length traces ≡ length airs
    pub balance : DebugChecksTraced E (all_debug_traced sets all)

  -- the refusal of a check over what the tables encode
  pub record IsDebugUnbalanced (airs : List Tables) (traces : List Traces) (fault : Fault) : Type 0 where
    pub sets : List (Lookups (Residue p))
    pub sets_are : AreDebugSets airs sets
    pub all : List (ReadTraces (Residue p))
    pub all_are : AreTracesOfTables positive traces all
    pub refusal : IsFirstDebugMisfit (all_debug_traced sets all) fault ⊎ IsDebugMismatch E (all_debug_traced sets all) fault

  -- The refusal of the number of traces, of the tables, of the traces, of lookups that do not fit, or the
  -- first mismatch; or memory runs out.
  abbrev pub IsDebugCheckRefusal : List Tables → List Traces → Fault → Type 0
  IsDebugCheckRefusal airs traces fault =
      (fault ≡ Memory)
      ⊎ (((fault ≡ Length Batch (length airs) (length traces)) × (length traces ≢ length airs))
      ⊎ (IsDebugSetsRefusal p airs fault
      ⊎ (IsTracesOfTablesRefusal positive traces fault
      ⊎ IsDebugUnbalanced airs traces fault)))
