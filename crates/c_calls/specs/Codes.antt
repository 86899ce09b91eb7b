-- The numbers of bindings/c/volgwain.h.
use Rattle.std.specs.Prelude.{ℕ}
use Rattle.c_tables.specs.declared.traces.TracePart.{TracePart}
use Rattle.c_tables.specs.declared.traces.TracePart.TheVariants as trace_part
use Rattle.c_calls.specs.declared.codes.Code.{Code}
use Rattle.c_calls.specs.declared.codes.Code.TheVariants as code
use Rattle.c_calls.specs.declared.codes.Part.{Part}
use Rattle.c_calls.specs.declared.codes.Part.TheVariants as part
use Rattle.c_calls.specs.declared.codes.RecordFault.{RecordFault}
use Rattle.c_calls.specs.declared.codes.RecordFault.TheVariants as record_fault

-- the number of each code
abbrev pub code_number : Code → ℕ
code_number code.Ok = 0
code_number code.OutOfMemory = 1
code_number code.BadTable = 2
code_number code.BadNumber = 3
code_number code.BadLength = 4
code_number code.NoWholeRows = 5
code_number code.DoesNotFit = 6
code_number code.OtherHeight = 7
code_number code.VanishingDenominator = 8
code_number code.FlagNotBoolean = 9
code_number code.FlagsNotExclusive = 10
code_number code.MalformedLookup = 11
code_number code.BusWidths = 12
code_number code.TupleWidths = 13
code_number code.TooManyIds = 14
code_number code.HeightBound = 15
code_number code.TraceMismatch = 16
code_number code.TerminalPresence = 17
code_number code.AuxiliaryWidth = 18
code_number code.AuxiliaryHeight = 19
code_number code.ConstraintFailed = 20
code_number code.TerminalSum = 21
code_number code.RepeatedChallenge = 22
code_number code.CountOverflow = 23
code_number code.WeightOverflow = 24
code_number code.DegreeOverflow = 25
code_number code.Mismatch = 26
code_number code.BadText = 27
code_number code.UnlawfulIds = 28
code_number code.BadConstraints = 29
code_number code.NonzeroConstraint = 30
code_number code.Unmet = 31

-- the number of each fault of a record
abbrev pub record_fault_number : RecordFault → ℕ
record_fault_number record_fault.Node = 1
record_fault_number record_fault.Range = 2
record_fault_number record_fault.LongList = 3
record_fault_number record_fault.Kind = 4
record_fault_number record_fault.Name = 5
record_fault_number record_fault.DeepExpression = 6
record_fault_number record_fault.LargeRow = 7
record_fault_number record_fault.LongWrittenList = 8

-- the number of each part of a call
abbrev pub part_number : Part → ℕ
part_number part.Main = 1
part_number part.Preprocessed = 2
part_number part.PublicValues = 3
part_number part.Challenges = 4
part_number part.Alphas = 5
part_number part.Betas = 6
part_number part.Auxiliary = 7
part_number part.Terminals = 8
part_number part.Batch = 9
part_number part.Degrees = 10
part_number part.Ids = 11
part_number part.Sizes = 12
part_number part.Nodes = 13
part_number part.Tuples = 14
part_number part.Names = 15
part_number part.Records = 16
part_number part.Rows = 17
part_number part.Offset = 18
part_number part.Numbers = 19
part_number part.Queries = 20
part_number part.Enforced = 21
part_number part.Bounds = 22

-- the part of a call that a part of the traces is
abbrev pub call_part_of : TracePart → Part
call_part_of trace_part.Main = part.Main
call_part_of trace_part.Preprocessed = part.Preprocessed
call_part_of trace_part.PublicValues = part.PublicValues
