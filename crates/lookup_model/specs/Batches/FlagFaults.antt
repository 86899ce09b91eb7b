-- The faults that counting can meet in a batch: those of flags.
use Rattle.std.specs.Prelude.{◌≡◌, Bool, List, []}
use Rattle.air_expressions.specs.Faults.{HasFirstFault}
use Rattle.field.specs.Ring.{Ring}
use Rattle.lookup_model.specs.FlagFault.{trace_flag_faults}
use Rattle.lookup_model.specs.declared.error.LookupError.{LookupError}
use Rattle.lookup_model.specs.Batches.Faults.{IsFirstFaultAt}
use Rattle.lookup_model.specs.Batches.Instances.{Instance}
use Rattle.lookup_model.specs.Batches.Messages.{sent_rows_of}
use Rattle.lookup_model.specs.declared.fault.BatchFault.{BatchFault}

module _ {F : Type 0} (R : Ring F) (eq : F → F → Bool) where
  -- the faults of the flags of an AIR, in the order of its rows and their lookups
  abbrev pub instance_flag_faults : Instance F → List LookupError
  instance_flag_faults i = trace_flag_faults R eq (sent_rows_of R eq i)

  -- the first fault of flags of the first AIR that has one
  abbrev pub IsFirstFlagFault : List (Instance F) → BatchFault → Type 0
  IsFirstFlagFault instances fault = HasFirstFault (λ i. instance_flag_faults i ≡ []) (λ index i. IsFirstFaultAt index (instance_flag_faults i) fault) instances
