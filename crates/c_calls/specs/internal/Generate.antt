-- Generation over traces and tables that were read, and what it gives as numbers.
use Rattle.std.specs.Prelude.{◌<◌, ◌≡◌, ℕ, List, MatchResult, Result}
use Rattle.field.specs.Extension.{Extension}
use Rattle.field_monty.specs.Quartic.{Quartic}
use Rattle.field.specs.Residue.{Residue}
use Rattle.lookup_model.specs.declared.types.Lookup.{Lookup}
use Rattle.c_tables.specs.declared.tables.Tables.{Tables}
use Rattle.c_tables.specs.declared.traces.ReadTraces.{ReadTraces}
use Rattle.c_tables.specs.declared.traces.Traces.{Traces}
use Rattle.c_calls.specs.Generate.{CallGeneratesLookups, CallGeneratesNumbers, CallGeneratesTables, IsFirstGenerateFault, IsGenerateCallRefusal, IsGenerateLookupsRefusal}
use Rattle.c_calls.specs.Inputs.{view_of_read}
use Rattle.c_calls.specs.Outputs.{output_cells, terminal_numbers}
use Rattle.c_calls.specs.declared.fault.Fault.{Fault}
use Rattle.c_calls.specs.declared.generate.Generated.{Generated}
use Rattle.c_calls.specs.declared.outputs.Terminal.{Terminal}

-- the numbers of what was generated
pub record AreNumbersOfGenerated {p : ℕ} (made : Generated (Quartic (Residue p))) (cells : List (List ℕ)) (ending : Terminal) : Type 0 where
  pub cells_are : cells ≡ output_cells made.auxiliary
  pub ending_is : ending ≡ terminal_numbers made.terminal

module _ {F K : Type 0} (E : Extension F K) (traces : ReadTraces F) (challenges : List K) (lookups : List (Lookup F)) where
  -- what is generated over traces that were read
  abbrev pub GeneratesRead : Generated K → Type 0
  GeneratesRead = CallGeneratesLookups E (view_of_read traces) challenges lookups

  -- the first fault of generation over these; or memory runs out
  abbrev pub IsFirstGenerateReadFault : Fault → Type 0
  IsFirstGenerateReadFault = IsFirstGenerateFault E (view_of_read traces) challenges lookups

  -- the refusal of generation over these
  abbrev pub IsGenerateReadRefusal : Fault → Type 0
  IsGenerateReadRefusal = IsGenerateLookupsRefusal E (view_of_read traces) challenges lookups

module _ {p : ℕ} (positive : 0 < p) (E : Extension (Residue p) (Quartic (Residue p))) (tables : Tables) (traces : Traces) (challenges : List (List ℕ)) where
  -- what is generated over tables, in one value
  abbrev pub GeneratesTables : Generated (Quartic (Residue p)) → Type 0
  GeneratesTables made = CallGeneratesTables positive E tables traces challenges made.auxiliary made.terminal

  -- the result of a call with room for so many cells: the numbers of what is generated, or its refusal
  abbrev pub ResultOfGenerate : ℕ → List (List ℕ) → Terminal → Result (Unit {0}) Fault → Type 0
  ResultOfGenerate room cells ending result =
      MatchResult result (λ _. CallGeneratesNumbers positive E tables traces challenges cells ending) (IsGenerateCallRefusal positive E tables traces challenges room)
