-- Plans of packed AIRs.
use Rattle.std.specs.Prelude.{◌≡◌, ◌⊎◌, Bool, List}
use Rattle.std.specs.List.{AllZip}
use Rattle.field.specs.Extension.{Extension}
use Rattle.field.specs.Ring.{Ring}
use Rattle.checker_batches.specs.Packed.{KeepsCounts}
use Rattle.lookup.specs.KeptByPacking.{KeepsSent}
use Rattle.lookup.specs.Lookups.{lookups_of}
use Rattle.lookup.specs.declared.lookups.Lookups.{Lookups}
use Rattle.batch.specs.Plans.{FitPlan, Plan, plan_batch}
use Rattle.batch.specs.declared.trace.BatchTrace.{BatchTrace}

-- the lookups of each AIR keep what packing keeps, or are as they were
abbrev pub ArePackedAirs : {F : Type 0} → Ring F → (F → F → Bool) → List (Lookups F) → List (Lookups F) → Type 0
ArePackedAirs R eq airs packed = AllZip (λ b a. (lookups_of a ≡ lookups_of b) ⊎ KeepsSent R eq (lookups_of b) (lookups_of a)) airs packed

-- Over all traces that fit the plan before, the batches of both plans have the same counts.
abbrev pub KeepsPlanCounts : {F K : Type 0} → Extension F K → Plan F → Plan F → Type 0
KeepsPlanCounts {F} E plan packed =
    (traces : List (BatchTrace F)) → FitPlan plan traces → KeepsCounts E (plan_batch plan traces) (plan_batch packed traces)
