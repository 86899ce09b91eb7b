-- Each refusal has the fields of its code, and no others.
use Rattle.std.proofs.Common.{ℕ, refl}
use Rattle.batch.specs.declared.error.BatchError.{BatchError}
use Rattle.batch.specs.declared.error.BatchError.TheVariants as batch_error
use Rattle.lookup_model.specs.declared.error.LookupError.{LookupError}
use Rattle.lookup_model.specs.declared.error.LookupError.TheVariants as lookup_error
use Rattle.c_tables.specs.declared.tables.TableFault.{TableFault}
use Rattle.c_tables.specs.declared.tables.TableFault.TheVariants as table_fault
use Rattle.c_tables.specs.declared.traces.TraceFault.{TraceFault}
use Rattle.c_tables.specs.declared.traces.TraceFault.TheVariants as trace_fault
use Rattle.c_calls.specs.Refusals.{HasRefusalFields, batch_refusal, constraints_refusal, lookup_refusal, refusal_of, table_refusal, trace_refusal}
use Rattle.c_calls.specs.declared.fault.Fault.{Fault}
use Rattle.c_calls.specs.declared.fault.Fault.TheVariants.{Batch, Constraints, Lookup, Table, Traces}

table_fields : (a l : ℕ) (fault : TableFault) → HasRefusalFields (table_refusal a l fault)
table_fields a l table_fault.Memory = refl
table_fields a l fault = refl

constraints_fields : (fault : TableFault) → HasRefusalFields (constraints_refusal fault)
constraints_fields table_fault.Memory = refl
constraints_fields fault = refl

trace_fields : (a : ℕ) (fault : TraceFault) → HasRefusalFields (trace_refusal a fault)
trace_fields a trace_fault.Memory = refl
trace_fields a fault = refl

lookup_fields : (at : ℕ) (error : LookupError) → HasRefusalFields (lookup_refusal at error)
lookup_fields at lookup_error.Memory = refl
lookup_fields at error = refl

batch_fields : (error : BatchError) → HasRefusalFields (batch_refusal error)
batch_fields (batch_error.Lookup error) = lookup_fields 0 error
batch_fields (batch_error.Air air error) = lookup_fields air error
batch_fields error = refl

pub has_its_fields : (fault : Fault) → HasRefusalFields (refusal_of fault)
has_its_fields (Table air l fault) = table_fields air l fault
has_its_fields (Traces air fault) = trace_fields air fault
has_its_fields (Lookup air error) = lookup_fields air error
has_its_fields (Batch error) = batch_fields error
has_its_fields (Constraints fault) = constraints_fields fault
has_its_fields fault = refl
