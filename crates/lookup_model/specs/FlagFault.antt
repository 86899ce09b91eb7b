-- The faults of flags alone.
use Rattle.std.specs.Prelude.{ℕ, Bool, List, Option}
use Rattle.field.specs.Ring.{Ring}
use Rattle.lookup_model.specs.Fault.{faults_of_row, faults_of_trace, flag_fault_of}
use Rattle.lookup_model.specs.Sent.{Sent}
use Rattle.lookup_model.specs.declared.error.LookupError.{LookupError}

module _ {F : Type 0} (R : Ring F) (eq : F → F → Bool) where
  -- the fault of the flags of what a lookup sends on a row
  abbrev pub sent_flag_fault : ℕ → ℕ → Sent F → Option LookupError
  sent_flag_fault row lookup sent = flag_fault_of R eq row lookup sent.flags

  -- the faults of the flags of one row, in the order of its lookups
  abbrev pub row_flag_faults : ℕ → List (Sent F) → List LookupError
  row_flag_faults row sents = faults_of_row sent_flag_fault row sents

  -- those of a trace, in the order of its rows and their lookups
  abbrev pub trace_flag_faults : List (List (Sent F)) → List LookupError
  trace_flag_faults rows = faults_of_trace sent_flag_fault rows
