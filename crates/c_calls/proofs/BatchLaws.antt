-- The batch that tables encode, as calls read it.
use Rattle.std.proofs.Common.{ℕ, ◌<◌, ◌≡◌, ◌∙◌, List, ap, map, sym}
use Rattle.field.specs.Residue.{Residue}
use Rattle.list_laws.proofs.Zips.{AllZip-paired, AllZip-same_map}
use Rattle.air.specs.Traces.{air_traces}
use Rattle.batch.specs.Plans.{Plan}
use Rattle.batch.specs.Traces.{view_of}
use Rattle.batch.specs.declared.trace.BatchTrace.{BatchTrace}
use Rattle.c_tables.specs.TraceNumbers.{AreTracesOfNumbers}
use Rattle.c_tables.specs.declared.traces.ReadTraces.{ReadTraces}
use Rattle.c_tables.specs.declared.traces.Traces.{Traces}
use Rattle.c_calls.specs.BatchTables.{AreTracesOfTables, IsBatchOfTables, IsPlanOfTables}
use Rattle.c_calls.specs.Inputs.{decoded_traces, view_of_read}
use Rattle.c_calls.specs.declared.batch_tables.Air.{Air}

-- what is read is what the numbers encode
pub decoded : {p : ℕ} (positive : 0 < p) (numbers : Traces) (traces : ReadTraces (Residue p)) → AreTracesOfNumbers positive numbers traces → view_of_read traces ≡ decoded_traces positive numbers
decoded positive numbers traces are i = air_traces (are.main i) (are.preprocessed i) (are.public_values i)

-- a plan and traces that are read are the batch
pub batch_read : {p : ℕ} (positive : 0 < p) {airs : List Air} {plan : Plan (Residue p)} {all read : List (ReadTraces (Residue p))} {given made : List (BatchTrace (Residue p))} (traces : List Traces)
    → IsPlanOfTables airs plan → AreTracesOfTables positive traces all → read ≡ all → given ≡ made → map view_of made ≡ map view_of_read read → IsBatchOfTables positive airs traces plan given
batch_read positive {all = all} traces plan_is are read_is given_is views = record {
  plan_is = plan_is;
  below = λ k t there. (AllZip-paired (AreTracesOfNumbers positive) traces all are k t there).1.canonical;
  views = ap (map view_of) given_is ∙ (views ∙ (ap (map view_of_read) read_is ∙ sym (AllZip-same_map (AreTracesOfNumbers positive) (decoded_traces positive) view_of_read (λ t read_t is. sym (decoded positive t read_t is)) traces all are)));
}
