-- Traces over the residues modulo p as tables of numbers.
use Rattle.std.specs.Prelude.{◌≡◌, ◌⊎◌, ◌<◌, ◌%◌, ◌==◌, if◌then◌else◌, ℕ, Bool, false, true, List, Option, None, Some, length, map}
use Rattle.field.specs.Residue.{Residue, residue_of}
use Rattle.matrix.specs.Matrix.{Matrix}
use Rattle.c_tables.specs.Numbers.{AreNumbersBelow, IsFirstLargeNumber}
use Rattle.c_tables.specs.declared.traces.ReadTraces.{ReadTraces}
use Rattle.c_tables.specs.declared.traces.TraceFault.{TraceFault}
use Rattle.c_tables.specs.declared.traces.TraceFault.TheVariants.{Memory, Large, Ragged}
use Rattle.c_tables.specs.declared.traces.TracePart.{TracePart}
use Rattle.c_tables.specs.declared.traces.TracePart.TheVariants.{Main, Preprocessed, PublicValues}
use Rattle.c_tables.specs.declared.traces.Traces.{Traces}

-- whether so many numbers make whole rows of this width
abbrev pub makes_rows : ℕ → ℕ → Bool
makes_rows numbers width = if width == 0 then numbers == 0 else ((numbers % width) == 0)

module _ {p : ℕ} (positive : 0 < p) where
  -- the elements that are these numbers
  abbrev pub elements_of_numbers : List ℕ → List (Residue p)
  elements_of_numbers numbers = map (residue_of p positive) numbers

  -- the trace with these numbers, row after row
  abbrev pub trace_of_numbers : List ℕ → ℕ → Matrix (Residue p)
  trace_of_numbers numbers width = record { values = elements_of_numbers numbers; width = width }

  -- the same, if there is one: it has a width
  abbrev pub preprocessed_of_numbers : List ℕ → ℕ → Option (Matrix (Residue p))
  preprocessed_of_numbers numbers width = if width == 0 then None else Some (trace_of_numbers numbers width)

  -- what the tables of an AIR's traces encode
  abbrev pub main_trace_of_numbers : Traces → Matrix (Residue p)
  main_trace_of_numbers t = trace_of_numbers t.main.now t.main_width

  abbrev pub preprocessed_trace_of_numbers : Traces → Option (Matrix (Residue p))
  preprocessed_trace_of_numbers t = preprocessed_of_numbers t.preprocessed.now t.preprocessed_width

  abbrev pub public_values_of_numbers : Traces → List (Residue p)
  public_values_of_numbers t = elements_of_numbers t.public_values.now

module _ (p : ℕ) where
  -- numbers that make whole rows of this width, all below the modulus
  pub record AreTraceNumbers (numbers : List ℕ) (width : ℕ) : Type 0 where
    pub whole : makes_rows (length numbers) width ≡ true
    pub below : AreNumbersBelow p (length numbers) numbers

  -- numbers that are traces
  pub record AreNumbersOfTraces (tables : Traces) : Type 0 where
    pub main : AreTraceNumbers tables.main.now tables.main_width
    pub preprocessed : AreTraceNumbers tables.preprocessed.now tables.preprocessed_width
    pub public_values : AreNumbersBelow p (length tables.public_values.now) tables.public_values.now

  -- the refusal of numbers that are no elements
  abbrev pub IsLargeNumberFault : TracePart → List ℕ → TraceFault → Type 0
  IsLargeNumberFault part numbers e = (i : ℕ) × (e ≡ Large part i) × IsFirstLargeNumber p numbers i

  -- The refusal of a trace: no whole rows, or whole rows with numbers that are no elements; or memory runs
  -- out.
  abbrev pub IsTracePartFault : TracePart → List ℕ → ℕ → TraceFault → Type 0
  IsTracePartFault part numbers width e =
      (e ≡ Memory)
      ⊎ (((e ≡ Ragged part) × (makes_rows (length numbers) width ≡ false))
      ⊎ ((makes_rows (length numbers) width ≡ true) × IsLargeNumberFault part numbers e))

  -- The refusal of the first part that has a fault, of the main trace, the preprocessed trace and the
  -- public values: the parts before it have none. Or memory runs out.
  abbrev pub IsTraceFault : Traces → TraceFault → Type 0
  IsTraceFault t e =
      IsTracePartFault Main t.main.now t.main_width e
      ⊎ ((AreTraceNumbers t.main.now t.main_width × IsTracePartFault Preprocessed t.preprocessed.now t.preprocessed_width e)
      ⊎ (AreTraceNumbers t.main.now t.main_width × AreTraceNumbers t.preprocessed.now t.preprocessed_width
      × ((e ≡ Memory) ⊎ IsLargeNumberFault PublicValues t.public_values.now e)))

-- these are the traces that the tables encode
pub record AreTracesOfNumbers {p : ℕ} (positive : 0 < p) (tables : Traces) (traces : ReadTraces (Residue p)) : Type 0 where
  pub main : traces.main ≡ main_trace_of_numbers positive tables
  pub preprocessed : traces.preprocessed ≡ preprocessed_trace_of_numbers positive tables
  pub public_values : traces.public_values.items ≡ public_values_of_numbers positive tables
  pub canonical : AreNumbersOfTraces p tables
