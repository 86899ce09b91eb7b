-- Runs of a plan: its traces at a pair of challenges, and what the calls of a prover and a verifier answer.
use Rattle.std.specs.Prelude.{◌≡◌, ◌≢◌, ◌⊎◌, List, Result, IfErr, IfOk, MatchResult, length}
use Rattle.field.specs.Extension.{Extension}
use Rattle.lookup_model.specs.Batches.Counts.{IsAccepting, IsCountedSound}
use Rattle.lookup_model.specs.Batches.Faults.{IsFirstFault}
use Rattle.lookup_model.specs.Batches.Instances.{Instance}
use Rattle.lookup_model.specs.Batches.Linear.{IsLinearlySound}
use Rattle.lookup_model.specs.Batches.Messages.{AreFlagsLawful, IsRegular}
use Rattle.lookup_model.specs.Batches.Refusals.{IsWitnessRefusal}
use Rattle.lookup_model.specs.Batches.Witnesses.{HasOneOfEach, IsAccepted, results_of}
use Rattle.lookup_model.specs.Challenges.{ChallengeTable}
use Rattle.lookup_model.specs.declared.error.LookupError.{LookupError}
use Rattle.lookup_model.specs.declared.fault.BatchFault.{BatchFault}
use Rattle.lookup_model.specs.declared.witness.Witness.{Witness}
use Rattle.checker_witness.specs.Answers.{PassesOnlyPlain}
use Rattle.checker_batches.specs.Answers.{GivesAcceptedIfBalanced, GivesSatisfied, IsPlainWitness}
use Rattle.batch.specs.Plans.{FitPlan, IsMisfit, Plan, plan_batch, plan_with}
use Rattle.batch.specs.Refusals.{of_fault}
use Rattle.batch.specs.Tables.{made_table}
use Rattle.batch.specs.WitnessCounts.{IsCountRefusal}
use Rattle.batch.specs.declared.error.BatchError.{BatchError}
use Rattle.batch.specs.declared.error.BatchError.TheVariants.{Lookup as OfLookup, Memory}
use Rattle.batch.specs.declared.plan.BatchPlan.{BatchPlan}
use Rattle.batch.specs.declared.trace.BatchTrace.{BatchTrace}

-- the plan that a value of the program holds, whatever the ghost members of the bounds on F
abbrev pub plan_of : {F : Type 0} {a b c d e f g h : _} → BatchPlan F a b c d e f g h → Plan F
plan_of plan = plan_with plan.airs.items plan.heights.items plan.ids.items plan.max_message_width plan.num_ids

-- A plan over traces at a pair of challenges, in these fields, with a batch and a table. `run_of` makes it.
pub record Run (F K : Type 0) : Type 0 where
  pub fields : Extension F K
  pub plan : Plan F
  pub traces : List (BatchTrace F)
  pub alpha : K
  pub beta : K
  pub batch : List (Instance F)
  pub table : ChallengeTable K

-- The run of a plan over traces at alpha and beta: its batch is that of the AIRs over the traces, and its
-- table is made of the challenges.
abbrev pub run_of : {F K : Type 0} → Extension F K → Plan F → List (BatchTrace F) → K → K → Run F K
run_of E plan traces alpha beta = record {
  fields = E;
  plan = plan;
  traces = traces;
  alpha = alpha;
  beta = beta;
  batch = plan_batch plan traces;
  table = made_table E.ring alpha beta plan.width plan.num_ids;
}

module _ {F K : Type 0} (run : Run F K) where
  -- The plain witness of the batch, over traces that fit; or the refusal of the traces; or else the
  -- fault of the first AIR that has one, as generation refuses it. Or memory runs out.
  abbrev pub Proves : Result (Witness K) BatchError → Type 0
  Proves answer = MatchResult answer
      (λ w. FitPlan run.plan run.traces × IsPlainWitness run.fields run.table run.batch w)
      (λ e. (e ≡ Memory)
      ⊎ (IsMisfit run.plan run.traces e
      ⊎ (FitPlan run.plan run.traces × ((fault : BatchFault) × IsFirstFault run.fields run.table run.batch fault × (e ≡ of_fault fault)))))

  -- if the traces fit and the batch is regular, only memory can be lacking
  abbrev pub ProvesRegular : Result (Witness K) BatchError → Type 0
  ProvesRegular answer = IfErr answer (λ e. FitPlan run.plan run.traces → IsRegular run.fields run.table run.batch → e ≡ Memory)

  -- a witness is satisfied and, if the batch is regular, no other one is
  abbrev pub ProvesSatisfied : Result (Witness K) BatchError → Type 0
  ProvesSatisfied answer = GivesSatisfied run.fields run.table run.batch answer

  -- if the messages balance, it is accepted
  abbrev pub ProvesBalanced : Result (Witness K) BatchError → Type 0
  ProvesBalanced answer = GivesAcceptedIfBalanced run.fields run.table run.batch answer

  -- The traces fit and the witness is accepted; or the first refusal: of the traces, of the number
  -- of auxiliary traces and of terminals, then that of the witness. Or memory runs out.
  abbrev pub Verifies : Witness K → Result (Unit {0}) BatchError → Type 0
  Verifies w answer = MatchResult answer
      (λ _. FitPlan run.plan run.traces × HasOneOfEach run.batch w × IsAccepted run.fields run.table run.batch (results_of w))
      (λ e. (e ≡ Memory)
      ⊎ (IsMisfit run.plan run.traces e
      ⊎ (FitPlan run.plan run.traces
      × (IsCountRefusal (length run.batch) w e
      ⊎ (HasOneOfEach run.batch w × ((error : LookupError) × IsWitnessRefusal run.fields run.table run.batch (results_of w) error × (e ≡ OfLookup error)))))))

  -- unless memory runs out, a witness of traces that fit is not accepted if it is refused
  abbrev pub RefusesOnlyUnaccepted : Witness K → Result (Unit {0}) BatchError → Type 0
  RefusesOnlyUnaccepted w answer =
      IfErr answer (λ e. e ≢ Memory → FitPlan run.plan run.traces → HasOneOfEach run.batch w → ¬ IsAccepted run.fields run.table run.batch (results_of w))

  -- if the batch is regular, only the plain witness passes
  abbrev pub VerifiesOnlyPlain : Witness K → Result (Unit {0}) BatchError → Type 0
  VerifiesOnlyPlain w answer = PassesOnlyPlain run.fields run.table run.batch (results_of w) answer

  -- A pass counts: alpha is accepting at beta. If flags are lawful, few alphas and betas are such, by both
  -- bounds of bad betas.
  abbrev pub PassIsCounted : Result (Unit {0}) BatchError → Type 0
  PassIsCounted answer =
      let W = run.plan.width in
      IfOk answer (λ _. IsAccepting run.fields run.batch W run.beta run.alpha
      × (AreFlagsLawful run.fields.base run.fields.base_eq run.batch → IsCountedSound run.fields run.batch W × IsLinearlySound run.fields run.batch W))
