-- The instances of a plan over traces, when they are made.
use Rattle.std.specs.Prelude.{◌≡◌, ◌⊎◌, ℕ, List, Result, MatchResult}
use Rattle.std.specs.declared.alloc.Global.{Global}
use Rattle.std.specs.declared.vec.Vec.{Vec}
use Rattle.lookup_model.specs.Batches.Ids.{AreLawfulIds}
use Rattle.lookup_model.specs.Batches.Instances.{InstancesFit, instances_of}
use Rattle.lookup_model.specs.declared.instance.BatchInstance.{BatchInstance}
use Rattle.batch.specs.Plans.{FitPlan, IsMisfit, Plan, plan_batch}
use Rattle.batch.specs.declared.error.BatchError.{BatchError}
use Rattle.batch.specs.declared.error.BatchError.TheVariants.{Memory}
use Rattle.batch.specs.declared.trace.BatchTrace.{BatchTrace}
use Rattle.batch.specs.internal.Pairs.{HaveIdsBelow}

module _ {F : Type 0} (p : ℕ) (plan : Plan F) (traces : List (BatchTrace F)) where
  -- The instances are those of the plan over traces that fit; so they meet the conditions of generation, of
  -- the check and of the counts, over a field of characteristic p.
  pub record IsPlanBatch (bs : List (BatchInstance F)) : Type 0 where
    pub is : instances_of bs ≡ plan_batch plan traces
    pub traces_fit : FitPlan plan traces
    pub fit : InstancesFit bs
    pub below : HaveIdsBelow plan.num_ids bs
    pub lawful : AreLawfulIds plan.width plan.num_ids p (instances_of bs)

  -- the batch, or the refusal of the traces; or memory runs out
  abbrev pub MakesPlanBatch : Result (Vec (BatchInstance F) Global) BatchError → Type 0
  MakesPlanBatch answer = MatchResult answer (λ batch. IsPlanBatch batch.items) (λ e. (e ≡ Memory) ⊎ IsMisfit plan traces e)
