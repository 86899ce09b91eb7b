-- What a call reads, and why it is refused.
use Rattle.std.specs.Prelude.{◌<◌, ◌≡◌, ◌⊎◌, ℕ, List, length, map}
use Rattle.field.specs.Residue.{Residue}
use Rattle.air.specs.Traces.{AirTraces, air_traces}
use Rattle.field_monty.specs.Quartic.{Quartic}
use Rattle.c_tables.specs.Numbers.{AreNumberGroupsBelow, IsFirstLargeNumberGroup, IsNumberGroup, quartic_of_numbers}
use Rattle.c_tables.specs.Tables.{IsFirstBadTableRecord}
use Rattle.c_tables.specs.TraceNumbers.{IsTraceFault, main_trace_of_numbers, preprocessed_trace_of_numbers, public_values_of_numbers}
use Rattle.c_tables.specs.declared.tables.TableFault.{TableFault}
use Rattle.c_tables.specs.declared.tables.Tables.{Tables}
use Rattle.c_tables.specs.declared.traces.ReadTraces.{ReadTraces}
use Rattle.c_tables.specs.declared.traces.TraceFault.{TraceFault}
use Rattle.c_tables.specs.declared.traces.Traces.{Traces}
use Rattle.c_calls.specs.declared.codes.Part.{Part}
use Rattle.c_calls.specs.declared.fault.Fault.{Fault}
use Rattle.c_calls.specs.declared.fault.Fault.TheVariants.{Memory, Table, Traces as OfTraces, Large}

-- the traces that numbers encode
abbrev pub decoded_traces : {p : ℕ} → 0 < p → Traces → AirTraces (Residue p)
decoded_traces positive t = air_traces (main_trace_of_numbers positive t) (preprocessed_trace_of_numbers positive t) (public_values_of_numbers positive t)

-- the traces that are read
abbrev pub view_of_read : {F : Type 0} → ReadTraces F → AirTraces F
view_of_read t = air_traces t.main t.preprocessed t.public_values.items

-- the first record of an AIR that is no lookup; or memory runs out
abbrev pub IsInputTableRefusal : ℕ → ℕ → Tables → Fault → Type 0
IsInputTableRefusal p air tables fault =
    (fault ≡ Memory) ⊎ (i : ℕ) × (reason : TableFault) × (fault ≡ Table air i reason) × IsFirstBadTableRecord p tables i reason

-- the traces of an AIR; or memory runs out
abbrev pub IsInputTracesRefusal : ℕ → ℕ → Traces → Fault → Type 0
IsInputTracesRefusal p air traces fault =
    (fault ≡ Memory) ⊎ (e : TraceFault) × (fault ≡ OfTraces air e) × IsTraceFault p traces e

-- the elements of the extension that groups of four numbers are
abbrev pub AreInputElements : {p : ℕ} → 0 < p → List (List ℕ) → List (Quartic (Residue p)) → Type 0
AreInputElements {p} positive groups elements = (elements ≡ map (quartic_of_numbers positive) groups) × AreNumberGroupsBelow p (length groups) groups

-- the first group of a list that is no element; or memory runs out
abbrev pub IsInputListRefusal : ℕ → Part → ℕ → List (List ℕ) → Fault → Type 0
IsInputListRefusal p part air groups fault = (fault ≡ Memory) ⊎ (i : ℕ) × (fault ≡ Large part air i) × IsFirstLargeNumberGroup p groups i

-- the challenge that four numbers are
abbrev pub IsInputChallenge : {p : ℕ} → 0 < p → List ℕ → Quartic (Residue p) → Type 0
IsInputChallenge {p} positive numbers challenge = (challenge ≡ quartic_of_numbers positive numbers) × IsNumberGroup p numbers

-- four numbers that are no challenge
abbrev pub IsInputChallengeRefusal : ℕ → Part → List ℕ → Fault → Type 0
IsInputChallengeRefusal p part numbers fault = (fault ≡ Large part 0 0) × (¬ IsNumberGroup p numbers)
