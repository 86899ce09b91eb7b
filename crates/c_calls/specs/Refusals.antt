-- What C sees of a refusal.
use Rattle.std.specs.Prelude.{◌≡◌, ℕ}
use Rattle.std.specs.Int.{from_bool}
use Rattle.batch.specs.declared.error.BatchError.{BatchError}
use Rattle.batch.specs.declared.error.BatchError.TheVariants as batch_error
use Rattle.lookup_model.specs.declared.error.LookupError.{LookupError}
use Rattle.lookup_model.specs.declared.error.LookupError.TheVariants as lookup_error
use Rattle.c_tables.specs.declared.tables.TableFault.{TableFault}
use Rattle.c_tables.specs.declared.tables.TableFault.TheVariants as table_fault
use Rattle.c_tables.specs.declared.traces.TraceFault.{TraceFault}
use Rattle.c_tables.specs.declared.traces.TraceFault.TheVariants as trace_fault
use Rattle.c_calls.specs.Codes.{code_number, part_number, call_part_of, record_fault_number}
use Rattle.c_calls.specs.declared.codes.Code.{Code}
use Rattle.c_calls.specs.declared.codes.Code.TheVariants as code
use Rattle.c_calls.specs.declared.codes.Part.{Part}
use Rattle.c_calls.specs.declared.codes.Part.TheVariants as part
use Rattle.c_calls.specs.declared.codes.RecordFault.{RecordFault}
use Rattle.c_calls.specs.declared.codes.RecordFault.TheVariants as record_fault
use Rattle.c_calls.specs.declared.fault.Fault.{Fault}
use Rattle.c_calls.specs.declared.fault.Fault.TheVariants.{Memory, Table, Traces, Large, Id, Width, Rows, Text, Length, Ragged, Misfit, Heights, Lookup, Mismatch, Batch, Constraints, UnfitConstraints, Nonzero}
use Rattle.c_calls.specs.declared.refusal.Refusal.{Refusal}

-- a refusal with its code by name
pub record CodedRefusal : Type 0 where
  pub code : Code
  pub part : ℕ
  pub air : ℕ
  pub row : ℕ
  pub lookup : ℕ
  pub expected : ℕ
  pub actual : ℕ

-- the numbers of a refusal, without a text
abbrev pub refusal_numbers : CodedRefusal → Refusal
refusal_numbers r = record { code = code_number r.code; part = r.part; air = r.air; row = r.row; lookup = r.lookup; expected = r.expected; actual = r.actual; text_length = 0 }

-- the refusal with this code and no fields
abbrev pub of_code : Code → CodedRefusal
of_code c = record { code = c; part = 0; air = 0; row = 0; lookup = 0; expected = 0; actual = 0 }

-- what is written where nothing is refused
abbrev pub no_refusal : Refusal
no_refusal = refusal_numbers (of_code code.Ok)

-- A refusal with each code has these fields alone; all others are 0.
abbrev pub refusal_fields : Code → CodedRefusal → CodedRefusal
refusal_fields code.BadTable r = record (of_code code.BadTable) { part = r.part; air = r.air; row = r.row; lookup = r.lookup }
refusal_fields code.BadNumber r = record (of_code code.BadNumber) { part = r.part; air = r.air; row = r.row }
refusal_fields code.BadLength r = record (of_code code.BadLength) { part = r.part; expected = r.expected; actual = r.actual }
refusal_fields code.NoWholeRows r = record (of_code code.NoWholeRows) { part = r.part; air = r.air }
refusal_fields code.DoesNotFit r = record (of_code code.DoesNotFit) { air = r.air }
refusal_fields code.OtherHeight r = record (of_code code.OtherHeight) { part = r.part; air = r.air }
refusal_fields code.VanishingDenominator r = record (of_code code.VanishingDenominator) { air = r.air; row = r.row; lookup = r.lookup }
refusal_fields code.FlagNotBoolean r = record (of_code code.FlagNotBoolean) { air = r.air; row = r.row; lookup = r.lookup }
refusal_fields code.FlagsNotExclusive r = record (of_code code.FlagsNotExclusive) { air = r.air; row = r.row; lookup = r.lookup }
refusal_fields code.MalformedLookup r = record (of_code code.MalformedLookup) { air = r.air; lookup = r.lookup }
refusal_fields code.BusWidths r = record (of_code code.BusWidths) { expected = r.expected; actual = r.actual }
refusal_fields code.TupleWidths r = record (of_code code.TupleWidths) { expected = r.expected; actual = r.actual }
refusal_fields code.TooManyIds r = record (of_code code.TooManyIds) { actual = r.actual }
refusal_fields code.TraceMismatch r = record (of_code code.TraceMismatch) { air = r.air }
refusal_fields code.TerminalPresence r = record (of_code code.TerminalPresence) { air = r.air; expected = r.expected; actual = r.actual }
refusal_fields code.AuxiliaryWidth r = record (of_code code.AuxiliaryWidth) { air = r.air; expected = r.expected }
refusal_fields code.AuxiliaryHeight r = record (of_code code.AuxiliaryHeight) { air = r.air }
refusal_fields code.ConstraintFailed r = record (of_code code.ConstraintFailed) { air = r.air; row = r.row }
refusal_fields code.WeightOverflow r = record (of_code code.WeightOverflow) { air = r.air }
refusal_fields code.DegreeOverflow r = record (of_code code.DegreeOverflow) { air = r.air }
refusal_fields code.BadConstraints r = record (of_code code.BadConstraints) { part = r.part; row = r.row }
refusal_fields code.NonzeroConstraint r = record (of_code code.NonzeroConstraint) { row = r.row; lookup = r.lookup }
refusal_fields code.Unmet r = record (of_code code.Unmet) { air = r.air }
refusal_fields c r = of_code c

-- the refusal of an AIR, with this code and no other fields
abbrev pub of_air : Code → ℕ → CodedRefusal
of_air c a = record (of_code c) { air = a }

-- the refusal of a lookup of an AIR on a row
abbrev pub on_row : Code → ℕ → ℕ → ℕ → CodedRefusal
on_row c a r l = record (of_code c) { air = a; row = r; lookup = l }

-- the refusal of a size that is not the one that is expected
abbrev pub refusal_of_size : Code → ℕ → ℕ → CodedRefusal
refusal_of_size c e a = record (of_code c) { expected = e; actual = a }

-- the refusal of a number of a part
abbrev pub bad_number : Part → ℕ → ℕ → CodedRefusal
bad_number p a i = record (of_code code.BadNumber) { part = part_number p; air = a; row = i }

-- the refusal of the length of a part
abbrev pub bad_length : Part → ℕ → ℕ → CodedRefusal
bad_length p e a = record (of_code code.BadLength) { part = part_number p; expected = e; actual = a }

-- the refusal of the rows of a part
abbrev pub bad_rows : Code → Part → ℕ → CodedRefusal
bad_rows c p a = record (of_code c) { part = part_number p; air = a }

-- the refusal of a record of an AIR, for what is wrong with it and not where
abbrev pub bad_table : ℕ → ℕ → RecordFault → CodedRefusal
bad_table a l fault = record (of_code code.BadTable) { part = record_fault_number fault; air = a; lookup = l }

-- the refusal of a record of an AIR
abbrev pub table_refusal : ℕ → ℕ → TableFault → CodedRefusal
table_refusal a l table_fault.Memory = of_code code.OutOfMemory
table_refusal a l (table_fault.Node n) = record (bad_table a l record_fault.Node) { row = n }
table_refusal a l table_fault.Range = bad_table a l record_fault.Range
table_refusal a l table_fault.TooManyNodesRead = bad_table a l record_fault.LongList
table_refusal a l table_fault.BadKind = bad_table a l record_fault.Kind
table_refusal a l table_fault.NameNotUtf8 = bad_table a l record_fault.Name
table_refusal a l table_fault.TooDeep = bad_table a l record_fault.DeepExpression
table_refusal a l table_fault.RowTooLarge = bad_table a l record_fault.LargeRow
table_refusal a l table_fault.TooManyNodesWritten = bad_table a l record_fault.LongWrittenList

-- the refusal of constraints, for what is wrong with their range, and where
abbrev pub constraints_refusal : TableFault → CodedRefusal
constraints_refusal fault = record (table_refusal 0 0 fault) { code = code.BadConstraints }

-- the refusal of the traces of an AIR
abbrev pub trace_refusal : ℕ → TraceFault → CodedRefusal
trace_refusal a trace_fault.Memory = of_code code.OutOfMemory
trace_refusal a (trace_fault.Large p i) = bad_number (call_part_of p) a i
trace_refusal a (trace_fault.Ragged p) = bad_rows code.NoWholeRows (call_part_of p) a

-- the refusal of a witness, at the AIR that it names
abbrev pub witness_refusal : LookupError → CodedRefusal
witness_refusal (lookup_error.TerminalPresenceMismatch air e a) = record (of_air code.TerminalPresence air) { expected = from_bool e; actual = from_bool a }
witness_refusal (lookup_error.PermutationWidthMismatch air e) = record (of_air code.AuxiliaryWidth air) { expected = e }
witness_refusal (lookup_error.PermutationHeightMismatch air) = of_air code.AuxiliaryHeight air
witness_refusal (lookup_error.ConstraintFailed air r) = on_row code.ConstraintFailed air r 0
witness_refusal lookup_error.TerminalSumNonZero = of_code code.TerminalSum
witness_refusal error = of_code code.Unmet

-- the refusal of the lookup layer, at this AIR unless it names one
abbrev pub lookup_refusal : ℕ → LookupError → CodedRefusal
lookup_refusal at lookup_error.Memory = of_code code.OutOfMemory
lookup_refusal at (lookup_error.VanishingDenominator r l) = on_row code.VanishingDenominator at r l
lookup_refusal at (lookup_error.FlagNotBoolean r l) = on_row code.FlagNotBoolean at r l
lookup_refusal at (lookup_error.FlagsNotExclusive r l) = on_row code.FlagsNotExclusive at r l
lookup_refusal at (lookup_error.BadRecord l) = on_row code.MalformedLookup at 0 l
lookup_refusal at (lookup_error.BusWidthMismatch bus e a) = refusal_of_size code.BusWidths e a
lookup_refusal at (lookup_error.TupleWidths context e a) = refusal_of_size code.TupleWidths e a
lookup_refusal at (lookup_error.MultiplicityHeightBoundExceeded sum bits) = of_code code.HeightBound
lookup_refusal at lookup_error.CountOverflow = of_code code.CountOverflow
lookup_refusal at lookup_error.CountWeightOverflow = of_air code.WeightOverflow at
lookup_refusal at lookup_error.DegreeOverflow = of_air code.DegreeOverflow at
lookup_refusal at lookup_error.CommitmentMismatch = of_air code.Unmet at
lookup_refusal at (lookup_error.PermutationLengthMismatch air) = of_air code.Unmet at
lookup_refusal at (lookup_error.Air error) = of_air code.Unmet at
lookup_refusal at error = witness_refusal error

-- the refusal of a call on a plan
abbrev pub batch_refusal : BatchError → CodedRefusal
batch_refusal batch_error.Memory = of_code code.OutOfMemory
batch_refusal (batch_error.Lookup error) = lookup_refusal 0 error
batch_refusal (batch_error.LengthMismatch e a) = bad_length part.Batch e a
batch_refusal (batch_error.TooManyIds ids) = refusal_of_size code.TooManyIds 0 ids
batch_refusal batch_error.UnlawfulIds = of_code code.UnlawfulIds
batch_refusal (batch_error.TraceMismatch air) = of_air code.TraceMismatch air
batch_refusal batch_error.RepeatedChallenge = of_code code.RepeatedChallenge
batch_refusal (batch_error.Air air error) = lookup_refusal air error
batch_refusal batch_error.CountOverflow = of_code code.CountOverflow

-- the refusal of a call
abbrev pub refusal_of : Fault → CodedRefusal
refusal_of Memory = of_code code.OutOfMemory
refusal_of (Table air l fault) = table_refusal air l fault
refusal_of (Traces air fault) = trace_refusal air fault
refusal_of (Large p air i) = bad_number p air i
refusal_of (Id i) = bad_number part.Ids 0 i
refusal_of Width = bad_number part.Sizes 0 0
refusal_of Rows = bad_number part.Rows 0 0
refusal_of (Text e) = of_code code.BadText
refusal_of (Length p e a) = bad_length p e a
refusal_of (Ragged air) = bad_rows code.NoWholeRows part.Auxiliary air
refusal_of (Misfit air) = of_air code.DoesNotFit air
refusal_of (Heights air) = bad_rows code.OtherHeight part.Preprocessed air
refusal_of (Lookup air error) = lookup_refusal air error
refusal_of (Mismatch line) = of_code code.Mismatch
refusal_of (Batch error) = batch_refusal error
refusal_of (Constraints fault) = constraints_refusal fault
refusal_of UnfitConstraints = of_air code.DoesNotFit 0
refusal_of (Nonzero fault) = on_row code.NonzeroConstraint 0 fault.row fault.constraint

-- a field that the code of a refusal lacks is 0
abbrev pub HasRefusalFields : CodedRefusal → Type 0
HasRefusalFields r = r ≡ refusal_fields r.code r

-- C sees this refusal of a fault, with the length of some text
pub record IsRefusalOf (fault : Fault) (refusal : Refusal) : Type 0 where
  pub is : refusal ≡ record (refusal_numbers (refusal_of fault)) { text_length = refusal.text_length }
  pub fields : HasRefusalFields (refusal_of fault)
