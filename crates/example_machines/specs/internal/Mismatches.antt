-- Flags of what a machine sends that are zero or one.
use Rattle.std.specs.Prelude.{◌≡◌, ◌<◌, ◌||◌, ℕ, Bool, true, Some, IfSome, slice_get}
use Rattle.std.specs.List.{list_all}
use Rattle.field.specs.Ring.{Ring}
use Rattle.matrix.specs.Matrix.{Matrix, height, row}
use Rattle.lookup_model.specs.Sent.{Sent}
use Rattle.example_machines.specs.Machines.{air_sends, machine_air_trace, airs_of}
use Rattle.example_machines.specs.declared.airs.MachineAir.{MachineAir}
use Rattle.example_machines.specs.declared.machine.Machine.{Machine}

module _ {F : Type 0} (R : Ring F) (eq : F → F → Bool) where
  -- each flag of what an AIR sends is zero or one
  abbrev pub HasBooleanFlags : Sent F → Type 0
  HasBooleanFlags sent = IfSome sent.flags (λ flags. list_all (λ f. eq f R.zero || eq f R.one) flags ≡ true)

  abbrev pub AreFlagsBoolean : Machine → Matrix F → Type 0
  AreFlagsBoolean machine input =
      (i : ℕ) (air : MachineAir) → slice_get (airs_of machine) i ≡ Some air
      → (r : ℕ) → r < height (machine_air_trace air input) → HasBooleanFlags (air_sends R eq air (row (machine_air_trace air input) r))
