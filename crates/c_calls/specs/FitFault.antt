-- What is answered for whether lookups fit their traces.
use Rattle.std.specs.Prelude.{◌<◌, ◌≡◌, ◌⊎◌, ℕ, List, MatchOption, None, Option, Some}
use Rattle.field.specs.Residue.{Residue}
use Rattle.air_expressions.specs.declared.variable.BaseEntry.{BaseEntry}
use Rattle.air_expressions.specs.declared.variable.BaseEntry.TheVariants as entry
use Rattle.lookup_debug.specs.Fits.{FitTraces, IsFitFault}
use Rattle.lookup_debug.specs.declared.fit.FitFault.{FitFault}
use Rattle.lookup_debug.specs.declared.fit.FitFault.TheVariants.{Heights, Malformed, Missing}
use Rattle.lookup_model.specs.declared.types.Lookup.{Lookup}
use Rattle.c_tables.specs.Tables.{TablesEncode}
use Rattle.c_tables.specs.TraceNumbers.{AreNumbersOfTraces}
use Rattle.c_tables.specs.declared.tables.Tables.{Tables}
use Rattle.c_tables.specs.declared.traces.Traces.{Traces}
use Rattle.c_calls.specs.Codes.{part_number}
use Rattle.c_calls.specs.Inputs.{IsInputTableRefusal, IsInputTracesRefusal, decoded_traces}
use Rattle.c_calls.specs.declared.codes.Part.{Part}
use Rattle.c_calls.specs.declared.codes.Part.TheVariants as part
use Rattle.c_calls.specs.declared.fault.Fault.{Fault}
use Rattle.c_calls.specs.declared.fit_fault.Fit.{Fit}

-- the part of a call in which a variable is read
abbrev pub cell_part : BaseEntry → Part
cell_part (entry.Preprocessed offset) = part.Preprocessed
cell_part (entry.Main offset) = part.Main
cell_part entry.Public = part.PublicValues

-- the row of a window in which it is read; 0 of a public value
abbrev pub cell_row : BaseEntry → ℕ
cell_row (entry.Preprocessed offset) = offset
cell_row (entry.Main offset) = offset
cell_row entry.Public = 0

-- the numbers of lookups that fit: each of them is 0
abbrev pub fits_numbers : Fit
fits_numbers = record { reason = 0; part = 0; lookup = 0; row = 0; column = 0; width = 0; height = 0; preprocessed_height = 0 }

-- the numbers of a reason why they do not: 1 a malformed lookup, 2 a cell that is not there, 3 the heights
abbrev pub fit_numbers : Option FitFault → Fit
fit_numbers None = fits_numbers
fit_numbers (Some (Malformed lookup)) = record fits_numbers { reason = 1; lookup = lookup }
fit_numbers (Some (Missing lookup cell width)) = record fits_numbers {
  reason = 2;
  part = part_number (cell_part cell.entry);
  lookup = lookup;
  row = cell_row cell.entry;
  column = cell.index;
  width = width;
}
fit_numbers (Some (Heights main preprocessed)) = record fits_numbers { reason = 3; height = main; preprocessed_height = preprocessed }

-- The lookups that the tables encode fit the traces of these numbers, which have one height; or the numbers
-- are those of the first reason why not.
pub record CallTellsFit {p : ℕ} (positive : 0 < p) (tables : Tables) (traces : Traces) (fit : Fit) : Type 0 where
  pub lookups : List (Lookup (Residue p))
  pub encoded : TablesEncode tables lookups
  pub traces_below : AreNumbersOfTraces p traces
  pub found : Option FitFault
  pub found_is : MatchOption found (FitTraces (decoded_traces positive traces) lookups) (IsFitFault (decoded_traces positive traces) lookups)
  pub fit_is : fit ≡ fit_numbers found

-- the refusal of the tables, or of the traces
abbrev pub IsFitCallRefusal : ℕ → Tables → Traces → Fault → Type 0
IsFitCallRefusal p tables traces fault = IsInputTableRefusal p 0 tables fault ⊎ IsInputTracesRefusal p 0 traces fault
