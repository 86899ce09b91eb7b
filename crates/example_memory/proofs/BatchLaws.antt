-- The batch of a memory check over a plan.
use Rattle.std.proofs.Common.{◌≡◌, ◌≢◌, inl, inr, List, All, Result, Ok, Err, IfErr, OnOk, length, map, sym, ap, subst, ◌∙◌}
use Rattle.std.proofs.lemmas.List.{length-map}
use Rattle.std.specs.List.{zip}
use Rattle.matrix.specs.Matrix.{Matrix}
use Rattle.lookup_model.specs.Challenges.{ChallengeTable}
use Rattle.field.specs.Extension.{Extension}
use Rattle.lookup_model.specs.Net.{IsBalanced}
use Rattle.lookup_model.specs.Batches.Counts.{IsAccepting}
use Rattle.lookup_model.specs.Batches.Faults.{AreFaultless, IsFirstFault}
use Rattle.lookup_model.specs.Batches.Instances.{Instance}
use Rattle.lookup_model.specs.Batches.Messages.{batch_messages}
use Rattle.lookup_model.specs.Batches.Refusals.{IsWitnessRefusal}
use Rattle.lookup_model.specs.Batches.Witnesses.{AirResult, HasOneOfEach, IsAccepted, plain_witness, results_of}
use Rattle.lookup_model.specs.declared.witness.Witness.{Witness}
use Rattle.batch.proofs.PlanCalls.{unfit_traces, wrong_count}
use Rattle.batch.proofs.TraceLaws.{alone_is}
use Rattle.batch.specs.Plans.{FitPlan, Plan, plan_batch}
use Rattle.batch.specs.Runs.{PassIsCounted, Proves, RefusesOnlyUnaccepted, Run, Verifies, run_of}
use Rattle.batch.specs.Tables.{made_table}
use Rattle.batch.specs.Traces.{FitsAt, IsFirstUnfit, batch_of_mains, traces_of_main, view_of}
use Rattle.batch.specs.declared.error.BatchError.{BatchError}
use Rattle.batch.specs.declared.error.BatchError.TheVariants.{LengthMismatch, Memory}
use Rattle.batch.specs.declared.trace.BatchTrace.{BatchTrace}
use Rattle.example_memory.specs.Memory.{AreMemoryTraces, IsAcceptedMemory, IsMemoryRefusal}

module _ {F K : Type 0} (E : Extension F K) (plan : Plan F) (mains : List (Matrix F)) (alpha beta : K) (traces : List (BatchTrace F)) (shown : map view_of traces ≡ map traces_of_main mains) where
  abbrev run : Run F K
  run = run_of E plan traces alpha beta

  abbrev own : List (Instance F)
  own = plan_batch plan traces

  abbrev batch : List (Instance F)
  batch = batch_of_mains plan.ids plan.airs mains

  abbrev table : ChallengeTable K
  table = made_table E.ring alpha beta plan.width plan.num_ids

  -- the plan's batch is that of the main traces
  same : own ≡ batch
  same = alone_is (zip plan.ids plan.airs) traces mains shown

  as_many : length traces ≡ length mains
  as_many = sym (length-map traces view_of) ∙ ap length shown ∙ length-map mains traces_of_main

  traces_are : FitPlan plan traces → AreMemoryTraces E plan mains alpha beta
  traces_are are = record {
    as_many = sym as_many ∙ are.as_many;
    fit = subst (λ (is : List (Instance F)). All FitsAt (zip is plan.heights)) same are.fit;
  }

  -- what `prove` refuses
  pub prove_refused : (e : BatchError) → (answer : Result (Witness K) BatchError) → answer ≡ Err e → Proves run answer → IsMemoryRefusal E plan mains alpha beta e
  prove_refused e (Ok w) is proves = absurd (cc is)
  prove_refused e (Err f) is proves =
      let same_error : f ≡ e = cc is in
      subst (λ (g : BatchError). IsMemoryRefusal E plan mains alpha beta g) same_error (elim proves [
        | inl memory ↦ inl memory
        | inr (inl (inl (other, is))) ↦ inr (inl (inl ((λ fit. other (as_many ∙ fit)), is ∙ ap (LengthMismatch (length plan.heights)) as_many)))
        | inr (inl (inr (fit, first))) ↦ inr (inl (inr (sym as_many ∙ fit, subst (λ (is : List (Instance F)). IsFirstUnfit plan.heights is f) same first)))
        | inr (inr (are, (fault, first, is))) ↦ inr (inr (traces_are are, inl (fault, subst (λ (is : List (Instance F)). IsFirstFault E table is fault) same first, is)))
      ])

  -- a witness that is proved
  module _ (w : Witness K) (are : FitPlan plan traces) (plain : results_of w ≡ plain_witness E table own) (complete : HasOneOfEach own w) (faultless : AreFaultless E table own)
      (balanced : IsBalanced E.base E.base_eq (batch_messages E.base E.base_eq own) → IsAccepted E table own (results_of w)) where
    no_fault : AreFaultless E table batch
    no_fault = subst (λ (is : List (Instance F)). AreFaultless E table is) same faultless

    -- what is said of it is said of the plain witness of the batch
    plain_is : results_of w ≡ plain_witness E table batch
    plain_is = plain ∙ ap (plain_witness E table) same

    of_plain : (P : List (Instance F) → List (AirResult K) → Type 0) → P own (results_of w) → P batch (plain_witness E table batch)
    of_plain P holds = subst (P batch) plain_is (subst (λ (is : List (Instance F)). P is (results_of w)) same holds)

    to_own : IsAccepted E table batch (plain_witness E table batch) → IsAccepted E table own (results_of w)
    to_own accepted = subst (λ (is : List (Instance F)). IsAccepted E table is (results_of w)) (sym same) (subst (IsAccepted E table batch) (sym plain_is) accepted)

    -- what passes is an accepted memory
    pub memory_accepted : (answer : Result (Unit {0}) BatchError) → Verifies run w answer → PassIsCounted run answer → OnOk answer (IsAcceptedMemory E plan mains alpha beta)
    memory_accepted (Ok u) verifies counted = record {
      traces_are = traces_are are;
      faultless = no_fault;
      accepted = of_plain (λ is rs. IsAccepted E table is rs) verifies.2;
      accepting = subst (λ (is : List (Instance F)). IsAccepting E is plan.width beta alpha) same counted.0;
    }
    memory_accepted (Err e) verifies counted = tt

    -- and what is refused does not balance
    pub memory_refused : (answer : Result (Unit {0}) BatchError) → Verifies run w answer → RefusesOnlyUnaccepted run w answer → IfErr answer (IsMemoryRefusal E plan mains alpha beta)
    memory_refused (Ok u) verifies refuses = tt
    memory_refused (Err e) (inl memory) refuses = inl memory
    memory_refused (Err e) (inr (inl unfit)) refuses = absurd (unfit_traces plan traces e unfit are)
    memory_refused (Err e) (inr (inr (fit, inl count))) refuses = absurd (wrong_count (length own) w e count complete)
    memory_refused (Err e) (inr (inr (fit, inr (one, (error, refusal, is))))) refuses =
        let not_memory : e ≢ Memory = λ memory. absurd (cc (sym is ∙ memory)) in
        let unaccepted : ¬ IsAccepted E table own (results_of w) = refuses not_memory are complete in
        inr (inr (
          traces_are are,
          inr (record {
            error = error;
            error_is = is;
            faultless = no_fault;
            refusal = of_plain (λ is rs. IsWitnessRefusal E table is rs error) refusal;
            refused = λ accepted. unaccepted (to_own accepted);
            unbalanced = λ even. unaccepted (balanced (subst (λ (is : List (Instance F)). IsBalanced E.base E.base_eq (batch_messages E.base E.base_eq is)) (sym same) even));
          }),
        ))
