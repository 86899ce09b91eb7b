-- The first tuple that does not balance, over the AIRs of a machine.
use Rattle.std.specs.Prelude.{◌≡◌, ◌++◌, ℕ, Bool, List, Option, None, Some, codes, map, string_bytes}
use Rattle.std.specs.List.{enumerate_from, flat_map, range_with_len}
use Rattle.std.specs.declared.alloc.Global.{Global}
use Rattle.std.specs.declared.string.String.{String}
use Rattle.field.specs.Ring.{Ring}
use Rattle.matrix.specs.Matrix.{Matrix, height, row}
use Rattle.lookup_debug.specs.Contributions.{Contribution}
use Rattle.lookup_debug.specs.FaultText.{mismatch_text}
use Rattle.lookup_debug.specs.Groups.{bus_label, local_label}
use Rattle.lookup_debug.specs.Mismatch.{Balances, IsFirst, net_amount, of_tuple}
use Rattle.lookup_debug.specs.SentContributions.{sent_contributions}
use Rattle.example_machines.specs.Machines.{air_sends, machine_air_trace, airs_of}
use Rattle.example_machines.specs.declared.airs.MachineAir.{MachineAir}
use Rattle.example_machines.specs.declared.machine.Machine.{Machine}
use Rattle.example_machines.specs.declared.machine.Machine.TheVariants.{Bus, Exclusive, Range}

-- the one local lookup of a machine, or its one bus
abbrev pub label_of : Machine → List ℕ
label_of Range = local_label 0 0
label_of Bus = bus_label (codes "b")
label_of Exclusive = bus_label (codes "rc")

module _ {F : Type 0} (R : Ring F) (eq : F → F → Bool) where
  -- what the AIR at this index contributes to it, with its one lookup on each row of its trace
  abbrev pub air_contributions : ℕ → MachineAir → Matrix F → List (Contribution F)
  air_contributions index air trace =
      flat_map (λ r. sent_contributions R eq (record { instance = index; lookup = 0; row = r }) (air_sends R eq air (row trace r))) (range_with_len 0 (height trace))

  -- what all AIRs of a machine contribute, over the rows of an input
  abbrev pub machine_contributions : Machine → Matrix F → List (Contribution F)
  machine_contributions machine input = flat_map (λ p. air_contributions p.0 p.1 (machine_air_trace p.1 input)) (enumerate_from 0 (airs_of machine))

  module _ (text : F → List ℕ) where
    -- the line of a tuple that does not balance
    abbrev pub mismatch_line : Machine → Matrix F → List F → List ℕ
    mismatch_line machine input tuple =
        let cs = machine_contributions machine input in
        mismatch_text (label_of machine) (map text tuple) (text (net_amount R eq cs tuple)) (map (λ c. c.location) (of_tuple R eq cs tuple)) ++ codes "\n"

    -- the line of the first tuple that does not balance; none if all do
    abbrev pub IsMismatchLine : Machine → Matrix F → Option (String Global) → Type 0
    IsMismatchLine machine input None = Balances R eq (machine_contributions machine input)
    IsMismatchLine machine input (Some line) =
        (tuple : List F) × IsFirst R eq text (machine_contributions machine input) tuple × (string_bytes line ≡ mismatch_line machine input tuple)
