-- Witnesses that numbers encode.
use Rattle.std.specs.Prelude.{◌<◌, ◌≡◌, ◌≢◌, ◌⊎◌, ◌==◌, if◌then◌else◌, ℕ, All, false, true, List, Option, None, Some, length, map}
use Rattle.field.specs.Residue.{Residue}
use Rattle.air_expressions.specs.Faults.{HasFirstFault}
use Rattle.field_monty.specs.Quartic.{Quartic}
use Rattle.matrix.specs.Matrix.{Matrix}
use Rattle.lookup_model.specs.declared.witness.Witness.{Witness}
use Rattle.lookup_model.specs.declared.types.LookupTerminal.{LookupTerminal}
use Rattle.c_tables.specs.Numbers.{AreNumberGroupsBelow, IsNumberGroup, quartic_of_numbers}
use Rattle.c_tables.specs.TraceNumbers.{makes_rows}
use Rattle.c_calls.specs.Inputs.{IsInputListRefusal}
use Rattle.c_calls.specs.declared.fault.Fault.{Fault}
use Rattle.c_calls.specs.declared.fault.Fault.TheVariants.{Large, Memory, Ragged}
use Rattle.c_calls.specs.declared.codes.Part.TheVariants.{Auxiliary, Terminals}
use Rattle.c_calls.specs.declared.outputs.Terminal.{Terminal}
use Rattle.c_calls.specs.declared.witness.AirWitness.{AirWitness}

-- the auxiliary trace with these cells, row after row
abbrev pub witness_auxiliary : {p : ℕ} → 0 < p → AirWitness → Matrix (Quartic (Residue p))
witness_auxiliary positive air = record { values = map (quartic_of_numbers positive) air.auxiliary.now; width = air.width }

-- the terminal of these numbers, if it is present
abbrev pub witness_terminal : {p : ℕ} → 0 < p → Terminal → Option (LookupTerminal (Quartic (Residue p)))
witness_terminal positive t = if t.present == 0 then None else Some (record { 0 = quartic_of_numbers positive t.value })

-- a terminal that is present has numbers below the modulus
abbrev pub IsWitnessTerminal : ℕ → Terminal → Type 0
IsWitnessTerminal p t = t.present ≢ 0 → IsNumberGroup p t.value

-- numbers that a witness has for an AIR: the cells make whole rows, and all are below the modulus
pub record IsAirWitness (p : ℕ) (air : AirWitness) : Type 0 where
  pub whole : makes_rows (length air.auxiliary.now) air.width ≡ true
  pub cells : AreNumberGroupsBelow p (length air.auxiliary.now) air.auxiliary.now
  pub terminal : IsWitnessTerminal p air.terminal

-- the witness that numbers encode, AIR by AIR
pub record IsWitnessOfNumbers {p : ℕ} (positive : 0 < p) (numbers : List AirWitness) (witness : Witness (Quartic (Residue p))) : Type 0 where
  pub aux : witness.aux.items ≡ map (witness_auxiliary positive) numbers
  pub terminals : witness.terminals.items ≡ map (λ air. witness_terminal positive air.terminal) numbers
  pub each : All (IsAirWitness p) numbers

-- the auxiliary trace of cells that make whole rows, and are all below the modulus
abbrev pub IsWitnessAuxiliary : {p : ℕ} → 0 < p → AirWitness → Matrix (Quartic (Residue p)) → Type 0
IsWitnessAuxiliary {p} positive air m =
    (m ≡ witness_auxiliary positive air) × (makes_rows (length air.auxiliary.now) air.width ≡ true) × AreNumberGroupsBelow p (length air.auxiliary.now) air.auxiliary.now

-- the refusal of cells: no whole rows, or numbers that are no elements; or memory runs out
abbrev pub IsWitnessAuxiliaryRefusal : ℕ → ℕ → AirWitness → Fault → Type 0
IsWitnessAuxiliaryRefusal p i air fault =
    ((fault ≡ Ragged i) × (makes_rows (length air.auxiliary.now) air.width ≡ false)) ⊎ IsInputListRefusal p Auxiliary i air.auxiliary.now fault

-- the refusal of a terminal that is present, and no element
abbrev pub IsWitnessTerminalRefusal : ℕ → ℕ → Terminal → Fault → Type 0
IsWitnessTerminalRefusal p i t fault = (fault ≡ Large Terminals i 0) × (t.present ≢ 0) × (¬ IsNumberGroup p t.value)

-- the refusal of what a witness has for the first AIR that is refused; or memory runs out
abbrev pub IsWitnessRefusal : ℕ → List AirWitness → Fault → Type 0
IsWitnessRefusal p numbers fault =
    (fault ≡ Memory)
    ⊎ HasFirstFault (IsAirWitness p) (λ index air. IsWitnessAuxiliaryRefusal p index air fault ⊎ IsWitnessTerminalRefusal p index air.terminal fault) numbers
