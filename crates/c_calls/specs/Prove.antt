-- What proving answers from tables of numbers.
use Rattle.std.specs.Prelude.{◌<◌, ◌≡◌, ◌≢◌, ◌⊎◌, ℕ, List, Result, Ok, Err, length, map}
use Rattle.std.specs.List.{flat_map}
use Rattle.field.specs.Residue.{Residue}
use Rattle.field_monty.specs.Quartic.{Quartic}
use Rattle.lookup_model.specs.declared.witness.Witness.{Witness}
use Rattle.field.specs.Extension.{Extension}
use Rattle.batch.specs.Runs.{Proves, ProvesBalanced, ProvesRegular, ProvesSatisfied, Run}
use Rattle.batch.specs.declared.error.BatchError.{BatchError}
use Rattle.c_tables.specs.declared.traces.Traces.{Traces}
use Rattle.c_calls.specs.CallAnswers.{CallAnswers}
use Rattle.c_calls.specs.BatchTables.{IsRunOfTablesRefusal, OfRunOfTables}
use Rattle.c_calls.specs.Outputs.{output_cells, terminal_numbers}
use Rattle.c_calls.specs.declared.batch_tables.Air.{Air}
use Rattle.c_calls.specs.declared.codes.Part.TheVariants.{Auxiliary, Terminals}
use Rattle.c_calls.specs.declared.fault.Fault.{Fault}
use Rattle.c_calls.specs.declared.fault.Fault.TheVariants.{Batch, Length, Memory}
use Rattle.c_calls.specs.declared.outputs.Terminal.{Terminal}
use Rattle.c_calls.specs.declared.refusal.Refusal.{Refusal}

-- what `BatchPlan::prove` says of its answer
pub record CallProvesPlan {F K : Type 0} (run : Run F K) (answer : Result (Witness K) BatchError) : Type 0 where
  pub proves : Proves run answer
  pub succeeds : ProvesRegular run answer
  pub satisfied : ProvesSatisfied run answer
  pub balanced : ProvesBalanced run answer

-- the cells of all auxiliary traces of a witness, one trace after the other
abbrev pub witness_cells : {p : ℕ} → Witness (Quartic (Residue p)) → List (List ℕ)
witness_cells w = flat_map output_cells w.aux.items

-- there is room for exactly the cells and the terminals of a witness
pub record HasProveRoom {p : ℕ} (w : Witness (Quartic (Residue p))) (cells terminals : ℕ) : Type 0 where
  pub cells_are : length (witness_cells w) ≡ cells
  pub terminals_are : length w.terminals.items ≡ terminals

-- there is not, and the cells are counted first; or they cannot be counted
abbrev pub IsProveRoomRefusal : {p : ℕ} → Witness (Quartic (Residue p)) → ℕ → ℕ → Fault → Type 0
IsProveRoomRefusal w cells terminals fault =
    (fault ≡ Memory)
    ⊎ (((length (witness_cells w) ≢ cells) × (fault ≡ Length Auxiliary (length (witness_cells w)) cells))
    ⊎ ((length (witness_cells w) ≡ cells) × (length w.terminals.items ≢ terminals) × (fault ≡ Length Terminals (length w.terminals.items) terminals)))

module _ {p : ℕ} (positive : 0 < p) (E : Extension (Residue p) (Quartic (Residue p))) (airs : List Air) (traces : List Traces) (alpha beta : List ℕ) where
  -- The witness of the plan of the AIRs over the traces, all as the tables encode them.
  abbrev pub ProvesTables : Witness (Quartic (Residue p)) → Type 0
  ProvesTables witness = OfRunOfTables positive E airs traces alpha beta (λ run. CallProvesPlan run (Ok witness))

  -- the refusal of the batch, of a challenge, or of the proof; or memory runs out
  abbrev pub IsProveRefusal : Fault → Type 0
  IsProveRefusal fault =
      IsRunOfTablesRefusal positive airs traces alpha beta fault
      ⊎ ((e : BatchError) × (fault ≡ Batch e) × OfRunOfTables positive E airs traces alpha beta (λ run. CallProvesPlan run (Err e)))

  -- the numbers of a witness
  pub record ProvesNumbers (cells : List (List ℕ)) (terminals : List Terminal) : Type 0 where
    pub witness : Witness (Quartic (Residue p))
    pub proves : ProvesTables witness
    pub cells_are : cells ≡ witness_cells witness
    pub terminals_are : terminals ≡ map terminal_numbers witness.terminals.items

  -- The refusal of a call with room for so many cells and terminals.
  abbrev pub IsProveCallRefusal : ℕ → ℕ → Fault → Type 0
  IsProveCallRefusal cells terminals fault =
      IsProveRefusal fault ⊎ ((witness : Witness (Quartic (Residue p))) × ProvesTables witness × IsProveRoomRefusal witness cells terminals fault)

  -- what such a call answers
  abbrev pub AnswersProve : ℕ → ℕ → List (List ℕ) → List Terminal → ℕ → Refusal → Type 0
  AnswersProve room terminals_room cells terminals code refusal = CallAnswers code refusal (ProvesNumbers cells terminals) (IsProveCallRefusal room terminals_room)
