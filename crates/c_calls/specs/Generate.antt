-- What generation of one AIR answers from tables of numbers.
use Rattle.std.specs.Prelude.{◌≡◌, ◌≢◌, ◌⊎◌, ◌*◌, ◌-◌, ◌^◌, ◌<◌, ℕ, List, [], Option, Some, length, min, slice_get}
use Rattle.field.specs.Residue.{Residue}
use Rattle.field.specs.Extension.{Extension}
use Rattle.field_monty.specs.Quartic.{Quartic}
use Rattle.matrix.specs.Matrix.{Matrix}
use Rattle.air.specs.Traces.{AirTraces, HaveOneHeight, height_of, layout_of}
use Rattle.lookup_model.specs.Denominators.{key_denominator}
use Rattle.lookup_model.specs.Fault.{trace_faults}
use Rattle.lookup_model.specs.Generated.{plain_matrix, plain_terminal_of}
use Rattle.lookup_model.specs.Records.{LookupsFit}
use Rattle.lookup_model.specs.Trace.{sent_rows}
use Rattle.lookup_model.specs.Witness.{IsSatisfied}
use Rattle.lookup_model.specs.declared.error.LookupError.{LookupError}
use Rattle.lookup_model.specs.declared.types.Lookup.{Lookup}
use Rattle.lookup_model.specs.declared.types.LookupTerminal.{LookupTerminal}
use Rattle.c_tables.specs.Tables.{TablesEncode}
use Rattle.c_tables.specs.TraceNumbers.{AreNumbersOfTraces}
use Rattle.c_tables.specs.declared.tables.Tables.{Tables}
use Rattle.c_tables.specs.declared.traces.Traces.{Traces}
use Rattle.c_calls.specs.CallAnswers.{CallAnswers}
use Rattle.c_calls.specs.Inputs.{AreInputElements, IsInputListRefusal, IsInputTableRefusal, IsInputTracesRefusal, decoded_traces}
use Rattle.c_calls.specs.Outputs.{output_cells, terminal_numbers}
use Rattle.c_calls.specs.declared.fault.Fault.{Fault}
use Rattle.c_calls.specs.declared.fault.Fault.TheVariants.{Heights, Length, Lookup as OfLookup, Memory, Misfit}
use Rattle.c_calls.specs.declared.codes.Part.TheVariants.{Auxiliary, Challenges}
use Rattle.c_calls.specs.declared.generate.Generated.{Generated}
use Rattle.c_calls.specs.declared.outputs.Terminal.{Terminal}
use Rattle.c_calls.specs.declared.refusal.Refusal.{Refusal}

module _ {F : Type 0} (traces : AirTraces F) (lookups : List (Lookup F)) where
  -- where there are lookups, there is a row
  abbrev pub HaveRows : Type 0
  HaveRows = 0 < length lookups → 0 < height_of traces

  -- the lookups fit the traces and have a row to read, and the traces have one height
  pub record GenerateFits : Type 0 where
    pub fit : LookupsFit (layout_of traces) lookups
    pub nonempty : HaveRows
    pub heights : HaveOneHeight traces

  -- the lookups do not fit the traces, or have no row to read
  abbrev pub IsGenerateMisfit : Fault → Type 0
  IsGenerateMisfit fault = (fault ≡ Misfit 0) × (¬ (LookupsFit (layout_of traces) lookups × HaveRows))

  -- the preprocessed trace has another height
  abbrev pub IsGenerateOtherHeight : Fault → Type 0
  IsGenerateOtherHeight fault = (fault ≡ Heights 0) × (¬ HaveOneHeight traces)

  -- either of these
  abbrev pub IsGenerateUnfit : Fault → Type 0
  IsGenerateUnfit fault = IsGenerateMisfit fault ⊎ IsGenerateOtherHeight fault

-- there are fewer than two challenges for each lookup
abbrev pub HasFewChallenges : {F K : Type 0} → List (Lookup F) → List K → Fault → Type 0
HasFewChallenges lookups challenges fault =
    (fault ≡ Length Challenges (min (length lookups * 2) (2 ^ 64 - 1)) (length challenges)) × (length challenges < 2 * length lookups)

module _ {F K : Type 0} (E : Extension F K) (traces : AirTraces F) (challenges : List K) (lookups : List (Lookup F)) where
  -- The plain result over these lookups, which fit the traces and have no fault; it satisfies the
  -- constraints.
  pub record CallGeneratesOver (auxiliary : Matrix K) (terminal : Option (LookupTerminal K)) : Type 0 where
    pub fitting : GenerateFits traces lookups
    pub auxiliary_is : auxiliary ≡ plain_matrix E (key_denominator E challenges) lookups (sent_rows E.base E.base_eq traces lookups)
    pub terminal_is : terminal ≡ plain_terminal_of E (key_denominator E challenges) lookups (sent_rows E.base E.base_eq traces lookups)
    pub faultless : trace_faults E (key_denominator E challenges) (sent_rows E.base E.base_eq traces lookups) ≡ []
    pub satisfied : IsSatisfied E traces lookups challenges auxiliary terminal

  -- and what is generated, in one value
  abbrev pub CallGeneratesLookups : Generated K → Type 0
  CallGeneratesLookups g = CallGeneratesOver g.auxiliary g.terminal

  -- the lookups fit the traces, and this is the first fault of generation
  pub record HasFirstGenerateFault (error : LookupError) : Type 0 where
    pub fit : LookupsFit (layout_of traces) lookups
    pub first : slice_get (trace_faults E (key_denominator E challenges) (sent_rows E.base E.base_eq traces lookups)) 0 ≡ Some error

  -- the refusal of that fault; or memory runs out
  abbrev pub IsFirstGenerateFault : Fault → Type 0
  IsFirstGenerateFault fault = (fault ≡ Memory) ⊎ ((error : LookupError) × (fault ≡ OfLookup 0 error) × HasFirstGenerateFault error)

  -- the refusal of generation over these lookups
  abbrev pub IsGenerateLookupsRefusal : Fault → Type 0
  IsGenerateLookupsRefusal fault = IsGenerateUnfit traces lookups fault ⊎ (HasFewChallenges lookups challenges fault ⊎ IsFirstGenerateFault fault)

-- there is not room for exactly the cells of a trace
abbrev pub HasOtherGenerateRoom : {K : Type 0} → Matrix K → ℕ → Fault → Type 0
HasOtherGenerateRoom auxiliary room fault = (length auxiliary.values ≢ room) × (fault ≡ Length Auxiliary (length auxiliary.values) room)

module _ {p : ℕ} (Makes : Matrix (Quartic (Residue p)) → Option (LookupTerminal (Quartic (Residue p))) → Type 0) where
  -- the numbers of an auxiliary trace and a terminal that are made so
  pub record AreGeneratedNumbers (cells : List (List ℕ)) (ending : Terminal) : Type 0 where
    pub auxiliary : Matrix (Quartic (Residue p))
    pub terminal : Option (LookupTerminal (Quartic (Residue p)))
    pub generates : Makes auxiliary terminal
    pub cells_are : cells ≡ output_cells auxiliary
    pub ending_is : ending ≡ terminal_numbers terminal

  -- there is not room for exactly the cells of what is made so
  abbrev pub LacksGenerateRoom : ℕ → Fault → Type 0
  LacksGenerateRoom room fault =
      (auxiliary : Matrix (Quartic (Residue p))) × (terminal : Option (LookupTerminal (Quartic (Residue p)))) × Makes auxiliary terminal × HasOtherGenerateRoom auxiliary room fault

module _ {p : ℕ} (positive : 0 < p) (E : Extension (Residue p) (Quartic (Residue p))) (tables : Tables) (traces : Traces) (challenges : List (List ℕ)) where
  -- Generation over the one list of lookups that the tables encode, and over the traces and the challenges
  -- of these numbers, which are all below the modulus.
  pub record CallGeneratesTables (auxiliary : Matrix (Quartic (Residue p))) (terminal : Option (LookupTerminal (Quartic (Residue p)))) : Type 0 where
    pub lookups : List (Lookup (Residue p))
    pub encoded : TablesEncode tables lookups
    pub traces_below : AreNumbersOfTraces p traces
    pub elements : List (Quartic (Residue p))
    pub elements_are : AreInputElements positive challenges elements
    pub generates : CallGeneratesOver E (decoded_traces positive traces) elements lookups auxiliary terminal

  -- the refusal of the tables, of the traces, of the challenges, or of generation
  abbrev pub IsGenerateRefusal : Fault → Type 0
  IsGenerateRefusal fault =
      IsInputTableRefusal p 0 tables fault
      ⊎ (IsInputTracesRefusal p 0 traces fault
      ⊎ (IsInputListRefusal p Challenges 0 challenges fault
      ⊎ ((lookups : List (Lookup (Residue p))) × (elements : List (Quartic (Residue p))) × TablesEncode tables lookups × AreInputElements positive challenges elements
      × IsGenerateLookupsRefusal E (decoded_traces positive traces) elements lookups fault)))

  -- the numbers of what is generated
  abbrev pub CallGeneratesNumbers : List (List ℕ) → Terminal → Type 0
  CallGeneratesNumbers cells ending = AreGeneratedNumbers CallGeneratesTables cells ending

  -- the refusal of a call with room for so many cells
  abbrev pub IsGenerateCallRefusal : ℕ → Fault → Type 0
  IsGenerateCallRefusal room fault = IsGenerateRefusal fault ⊎ LacksGenerateRoom CallGeneratesTables room fault

  -- the code and the refusal of a call that generates, with room for so many cells
  abbrev pub AnswersGenerate : ℕ → List (List ℕ) → Terminal → ℕ → Refusal → Type 0
  AnswersGenerate room cells ending code refusal = CallAnswers code refusal (CallGeneratesNumbers cells ending) (IsGenerateCallRefusal room)
