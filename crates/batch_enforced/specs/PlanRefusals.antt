-- How refusals of a plan are passed on.
use Rattle.batch.specs.declared.error.BatchError.{BatchError}
use Rattle.batch.specs.declared.error.BatchError.TheVariants as batch
use Rattle.batch_enforced.specs.declared.error.EnforcementError.{EnforcementError}
use Rattle.batch_enforced.specs.declared.error.EnforcementError.TheVariants.{Memory, Plan}

-- out of memory keeps its name
abbrev pub of_batch : BatchError → EnforcementError
of_batch batch.Memory = Memory
of_batch e = Plan e
