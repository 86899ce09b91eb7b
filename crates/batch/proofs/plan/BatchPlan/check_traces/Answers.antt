use Rattle.std.proofs.Common.{◌≡◌, ℕ, List, MatchResult, subst₂, sym}
use Rattle.std.specs.List.{AllZip}
use Rattle.lookup.specs.Lookups.{lookups_of}
use Rattle.lookup.specs.declared.lookups.Lookups.{Lookups}
use Rattle.lookup_model.specs.Batches.Instances.{Instance}
use Rattle.batch.specs.Lists.{lists_of}
use Rattle.batch.specs.declared.reach.Reach.{Reach}
use Rattle.batch.specs.Reaches.{IsReachOf}
use Rattle.batch.specs.Traces.{AreTraces, IsTraceRefusal, batch_over}
use Rattle.batch.proofs.plan.BatchPlan.check_traces.Goals as goal

pub check_traces-requires-clause-reaches : goal.check_traces-requires-clause-reaches
check_traces-requires-clause-reaches g c =
    subst₂ (λ (reaches : List Reach) (airs : List (Lookups _)). AllZip (λ reach air. IsReachOf reach (lookups_of air)) reaches airs) (sym c.as_slice-4.ensures.value) (sym c.as_slice.ensures.value) c.args.self.now.are_reaches

pub returns : goal.returns
returns g c =
    let self = c.args.self.now in
    let traces = c.args.traces.now in
    let same : batch_over (lists_of c.as_slice-2.result.now) c.as_slice.result.now traces ≡ batch_over (lists_of self.ids.items) self.airs.items traces = λ j. batch_over (lists_of (c.as_slice-2.ensures.value j)) (c.as_slice.ensures.value j) traces in
    subst₂ (λ (heights : List ℕ) (batch : List (Instance _)). MatchResult c.check_traces.result (λ _. AreTraces heights traces batch) (IsTraceRefusal heights traces batch)) c.as_slice-3.ensures.value same c.check_traces.ensures
