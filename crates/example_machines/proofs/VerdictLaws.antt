-- What a report says.
use Rattle.std.proofs.Common.{◌≡◌, ◌≢◌, ◌↔◌, ◌++◌, ◌<◌, ℕ, Bool, IsTrue, List, [], Option, Result, MatchResult, is_ok, length, map, string_bytes, subst, sym, ap, ap₂, ◌∙◌, arith}
use Rattle.std.specs.declared.alloc.Global.{Global}
use Rattle.std.specs.declared.string.String.{String}
use Rattle.list_laws.proofs.Zips.{seconds}
use Rattle.matrix.specs.Matrix.{Matrix}
use Rattle.lookup_model.specs.Batches.Witnesses.{results_of}
use Rattle.lookup_model.specs.declared.witness.Witness.{Witness}
use Rattle.lookup_model.specs.Terminals.{terminal_sum}
use Rattle.lookup_model.specs.declared.error.LookupError.{LookupError}
use Rattle.lookup_model.specs.declared.error.LookupError.TheVariants.{TerminalSumNonZero}
use Rattle.lookup_model.specs.declared.types.LookupTerminal.{LookupTerminal}
use Rattle.field_words.specs.Fields.{Fields}
use Rattle.example_machines.specs.Input.{IsInput}
use Rattle.example_machines.specs.Machines.{input_columns}
use Rattle.example_machines.specs.Mismatches.{IsMismatchLine}
use Rattle.example_machines.specs.Program.{AreFaultlessMachineAirs, IsReport, height_sum, machine_witness}
use Rattle.example_machines.specs.Report.{verdict_line}
use Rattle.language_witness.specs.Lines.{witness_lines}
use Rattle.example_machines.specs.declared.machine.Machine.{Machine}

-- what is appended to nothing
pub after_nothing : {X : Type 0} (all before more : List X) → all ≡ before ++ more → before ≡ [] → all ≡ more
after_nothing all before more is none = is ∙ ap (λ xs. xs ++ more) none

-- whether the check of a sum passes is whether it is zero
cancels : {K : Type 0} (sum zero : K) (result : Result (Unit {0}) LookupError) → MatchResult result (λ _. sum ≡ zero) (λ e. (e ≡ TerminalSumNonZero) × (sum ≢ zero)) → IsTrue (is_ok result) ↔ (sum ≡ zero)
cancels sum zero result is = grind (arith, is)

module _ {F K : Type 0} (fields : Fields F K) (machine : Machine) (alpha beta : K) (input : List ℕ) (rows : Matrix F) where
  -- the report of rows without a fault
  pub report_is : (w : Witness K) (terminals : List (Option (LookupTerminal K))) (cancel : Result (Unit {0}) LookupError) (balanced : Bool) (lines verdict : List ℕ) (text : String Global) (mismatch : Option (String Global))
      → IsInput fields.extension.base (input_columns machine) fields.bound input rows
      → (results_of w ≡ machine_witness fields.extension machine alpha beta rows) × (length w.aux.items ≡ length w.terminals.items) × AreFaultlessMachineAirs fields.extension machine alpha beta rows × (height_sum machine rows < fields.characteristic)
      → terminals ≡ w.terminals.items → MatchResult cancel (λ _. terminal_sum fields.extension.ring terminals ≡ fields.extension.ring.zero) (λ e. (e ≡ TerminalSumNonZero) × (terminal_sum fields.extension.ring terminals ≢ fields.extension.ring.zero))
      → balanced ≡ is_ok cancel → lines ≡ witness_lines fields.text (results_of w) → verdict ≡ verdict_line balanced → string_bytes text ≡ lines ++ verdict
      → IsMismatchLine fields.extension.base fields.extension.base_eq fields.base_text machine rows mismatch
      → IsReport fields machine alpha beta input (record { text = text; balanced = balanced; mismatch = mismatch })
  report_is w terminals cancel balanced lines verdict text mismatch read made are sum is lines_are verdict_is text_is mismatch_is = record {
    rows = rows;
    read = read;
    light = made.3;
    faultless = made.2;
    balanced =
        let S = fields.extension.ring in
        let same : terminals ≡ map (λ r. r.1) (machine_witness fields.extension machine alpha beta rows) = are ∙ sym (seconds w.aux.items w.terminals.items made.1) ∙ ap (map (λ r. r.1)) made.0 in
        let told : IsTrue (is_ok cancel) ↔ (terminal_sum S terminals ≡ S.zero) = cancels (terminal_sum S terminals) S.zero cancel sum in
        rw is (subst (λ (ts : List (Option (LookupTerminal K))). IsTrue (is_ok cancel) ↔ (terminal_sum S ts ≡ S.zero)) same told);
    text = text_is ∙ ap₂ (λ a b. a ++ b) (lines_are ∙ ap (witness_lines fields.text) made.0) verdict_is;
    mismatch = mismatch_is;
  }
