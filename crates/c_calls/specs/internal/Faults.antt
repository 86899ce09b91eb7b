-- What refusals of the lookup layer are told as.
use Rattle.std.specs.Prelude.{◌≡◌, ◌≢◌, ◌⊎◌}
use Rattle.batch.specs.declared.error.BatchError.TheVariants as batch_error
use Rattle.lookup_model.specs.declared.error.LookupError.{LookupError}
use Rattle.lookup_model.specs.declared.error.LookupError.TheVariants as lookup_error
use Rattle.c_calls.specs.declared.fault.Fault.{Fault}
use Rattle.c_calls.specs.declared.fault.Fault.TheVariants.{Batch, Lookup as OfLookup, Memory}

-- that memory runs out, or the refusal of the lookups of an AIR that is alone
abbrev pub IsLookupFault : LookupError → Fault → Type 0
IsLookupFault error fault =
    ((error ≡ lookup_error.Memory) × (fault ≡ Memory)) ⊎ ((error ≢ lookup_error.Memory) × (fault ≡ OfLookup 0 error))

-- that memory runs out, or the refusal of a check, which names its AIR
abbrev pub IsCheckFault : LookupError → Fault → Type 0
IsCheckFault error fault =
    ((error ≡ lookup_error.Memory) × (fault ≡ Memory)) ⊎ ((error ≢ lookup_error.Memory) × (fault ≡ Batch (batch_error.Lookup error)))
