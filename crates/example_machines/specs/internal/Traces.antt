-- The AIRs of a machine as the program holds them.
use Rattle.std.specs.List.{AllZip}
use Rattle.std.specs.Prelude.{◌≡◌, ℕ, Bool, List, None}
use Rattle.field.specs.Ring.{Ring}
use Rattle.matrix.specs.Matrix.{Matrix}
use Rattle.air.specs.Traces.{air_traces}
use Rattle.lookup_model.specs.Batches.Instances.{Instance}
use Rattle.lookup.specs.Lookups.{lookups_of}
use Rattle.lookup_debug.specs.Contributions.{Traced}
use Rattle.batch.specs.Traces.{traces_of_main}
use Rattle.example_machines.specs.Machines.{AreLookupsOf, machine_air_trace, airs_of}
use Rattle.example_machines.specs.declared.airs.MachineAir.{MachineAir}
use Rattle.example_machines.specs.declared.machine.Machine.{Machine}
use Rattle.example_machines.specs.declared.traces.AirTrace.{AirTrace}

-- the lookups of an AIR, and its trace over an input
pub record IsTraceOf {F : Type 0} (R : Ring F) (eq : F → F → Bool) (input : Matrix F) (air : MachineAir) (trace : AirTrace F) : Type 0 where
  pub lookups : AreLookupsOf R eq air (lookups_of trace.lookups)
  pub main : trace.main ≡ machine_air_trace air input

-- the instance of an AIR in a batch, with these public values and ids
abbrev pub traced_instance : {F : Type 0} → List F → List ℕ → AirTrace F → Instance F
traced_instance public_values ids trace = record {
  lookups = lookups_of trace.lookups;
  traces = air_traces trace.main None public_values;
  ids = ids;
}

-- an AIR as the debug check is given it
abbrev pub traced_over : {F : Type 0} → AirTrace F → Traced F
traced_over trace =
    record { traces = traces_of_main trace.main; lookups = lookups_of trace.lookups }

-- these are the AIRs of a machine over some input
abbrev pub AreTracesOf : {F : Type 0} → Ring F → (F → F → Bool) → List (AirTrace F) → Type 0
AreTracesOf {F} R eq traces = (machine : Machine) × (input : Matrix F) × AllZip (IsTraceOf R eq input) (airs_of machine) traces
