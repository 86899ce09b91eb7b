-- What a plan of a machine's AIRs proves.
use Rattle.std.proofs.Common.{◌≡◌, ◌⊎◌, ◌<◌, ℕ, Bool, inl, inr, List, All, length, map, sym, ap, ap₂, subst, subst₂, arith, ◌∙◌}
use Rattle.std.proofs.lemmas.List.{length-map}
use Rattle.std.specs.List.{AllZip, zip}
use Rattle.list_laws.proofs.Images.{map-map}
use Rattle.field.specs.Characteristic.{IsPrime}
use Rattle.field.specs.Ring.{Ring}
use Rattle.matrix.specs.Matrix.{Matrix, height}
use Rattle.lookup_model.specs.Batches.Faults.{AreFaultless as AreInstancesFaultless, IsFirstFault as IsFirstInstanceFault}
use Rattle.lookup_model.specs.Batches.Instances.{Instance}
use Rattle.lookup_model.specs.Batches.Witnesses.{plain_witness, results_of}
use Rattle.lookup_model.specs.declared.fault.BatchFault.{BatchFault}
use Rattle.lookup_model.specs.declared.witness.Witness.{Witness}
use Rattle.lookup_model.specs.Challenges.{ChallengeTable}
use Rattle.field.specs.Extension.{Extension}
use Rattle.lookup.specs.Guards.{weighted_height_sum}
use Rattle.lookup.specs.Lookups.{lookups_of}
use Rattle.lookup.specs.declared.lookups.Lookups.{Lookups}
use Rattle.checker_batches.specs.Answers.{IsPlainWitness}
use Rattle.batch.proofs.PlanCalls.{unfit_traces}
use Rattle.batch.specs.Checks.{IsPlanRefusal}
use Rattle.batch.specs.PlanFacts.{AreNumbered, IsPlan, message_width}
use Rattle.batch.specs.Plans.{FitPlan, IsMisfit, Plan, plan_batch}
use Rattle.batch.specs.Refusals.{of_fault}
use Rattle.batch.specs.Tables.{made_table}
use Rattle.batch.specs.Traces.{FitsAt, batch_over}
use Rattle.batch.specs.declared.error.BatchError.{BatchError}
use Rattle.batch.specs.declared.error.BatchError.TheVariants.{Memory as BatchMemory}
use Rattle.batch.specs.declared.trace.BatchTrace.{BatchTrace}
use Rattle.example_machines.specs.Machines.{airs_of, input_columns}
use Rattle.example_machines.specs.Program.{AreFaultlessMachineAirs, IsFirstAirFault, IsHeavyInput, height_sum, machine_witness, run_table}
use Rattle.example_machines.specs.Refusal.{of_batch}
use Rattle.batch.specs.Traces.{traces_of_main, view_of}
use Rattle.example_machines.specs.declared.error.RunError.TheVariants.{Memory}
use Rattle.example_machines.specs.declared.machine.Machine.{Machine}
use Rattle.example_machines.specs.declared.traces.AirTrace.{AirTrace}
use Rattle.example_machines.specs.internal.Traces.{IsTraceOf}
use Rattle.example_machines.proofs.BatchLaws.{faultless_is, first_fault_is, ids, instance, witness_is}
use Rattle.example_machines.proofs.PlannedAirs.{batch_is, height_sum_is, heights, machine_fits, machine_ids, refused_for_height, sets, sets_ones}
use Rattle.example_machines.proofs.PlannedWidths.{width_is_one}

-- a plan that is refused is too heavy
pub is_heavy : {F : Type 0} (R : Ring F) (eq : F → F → Bool) (input : Matrix F) (machine : Machine) (traces : List (AirTrace F)) → AllZip (IsTraceOf R eq input) (airs_of machine) traces → (p : ℕ) → IsPrime p
    → (airs : List (Lookups F)) (hs : List ℕ) → airs ≡ sets traces → hs ≡ heights traces → (e : BatchError) → IsPlanRefusal p airs hs e → IsHeavyInput p machine input (of_batch e)
is_heavy R eq input machine traces all p prime airs hs airs_are heights_are e refusal =
    let heavy = refused_for_height R eq input machine traces all p prime.above_one e (subst₂ (λ ls ns. IsPlanRefusal p ls ns e) airs_are heights_are refusal) in
    (heavy.0, heavy.1, ap of_batch heavy.2)

-- the traces that a plan is given are those of the AIRs
pub shown_is : {F : Type 0} (traces : List (AirTrace F)) (own mains : List (Matrix F)) → own ≡ mains → (made : List (BatchTrace F)) → map view_of made ≡ map traces_of_main own
    → (shown : List (BatchTrace F)) → shown ≡ made → mains ≡ map (λ t. t.main) traces → map view_of shown ≡ map (λ t. traces_of_main t.main) traces
shown_is traces own mains same made are shown shown_same mains_are =
    ap (map view_of) shown_same ∙ are ∙ ap (map traces_of_main) (same ∙ mains_are) ∙ map-map traces_of_main (λ t. t.main) traces

module _ {F K : Type 0} (E : Extension F K) (machine : Machine) (alpha beta : K) (input : Matrix F) (traces : List (AirTrace F)) (all : AllZip (IsTraceOf E.base E.base_eq input) (airs_of machine) traces)
    (p : ℕ) (plan : Plan F) (facts : IsPlan p plan) (numbered : AreNumbered plan.ids plan.airs plan.num_ids) (airs_are : plan.airs ≡ sets traces) (heights_are : plan.heights ≡ heights traces) where
  -- its ids are 0, and there is one
  zeros : (plan.ids ≡ map (λ t. ids) traces) × (plan.num_ids ≡ 1)
  zeros = machine_ids E.base E.base_eq input machine traces all plan.ids plan.num_ids (subst (λ (ls : List (Lookups F)). AreNumbered plan.ids ls plan.num_ids) airs_are numbered)

  -- its table is made for tuples of one value
  one : plan.width ≡ 1
  one = facts.width ∙ ap message_width airs_are ∙ width_is_one (sets traces) (sets_ones E.base E.base_eq input (airs_of machine) traces all)

  made_is : made_table E.ring alpha beta plan.width plan.num_ids ≡ run_table E alpha beta
  made_is i = made_table E.ring alpha beta (one i) (zeros.1 i)

  -- its height sum is that of the machine
  pub light : height_sum machine input < p
  light =
      let sum : weighted_height_sum (map lookups_of plan.airs) plan.heights ≡ height_sum machine input =
      ap₂ (λ ls ns. weighted_height_sum (map lookups_of ls) ns) airs_are heights_are ∙ height_sum_is E.base E.base_eq input machine traces all in
      omega (arith, facts.light, sum)

  module _ (shown : List (BatchTrace F)) (shown_are : map view_of shown ≡ map (λ t. traces_of_main t.main) traces) where
    -- its batch is that of the machine
    batch_same : plan_batch plan shown ≡ map instance traces
    batch_same = (λ i. batch_over (zeros.0 i) (airs_are i) shown) ∙ batch_is traces shown shown_are

    -- the traces fit
    traces_fit : input.width ≡ input_columns machine → 0 < height input → FitPlan plan shown
    traces_fit wide some = record {
      as_many = sym (length-map shown view_of) ∙ ap length shown_are ∙ length-map traces (λ t. traces_of_main t.main) ∙ sym (ap length heights_are ∙ length-map traces (λ t. height t.main));
      fit = subst₂ (λ (batch : List (Instance F)) (ns : List ℕ). All FitsAt (zip batch ns)) (sym batch_same) (sym heights_are) (machine_fits E.base E.base_eq input machine traces all wide some);
    }

    -- what it proves is the machine's witness
    pub proved : (w : Witness K) → FitPlan plan shown × IsPlainWitness E (made_table E.ring alpha beta plan.width plan.num_ids) (plan_batch plan shown) w
        → (results_of w ≡ machine_witness E machine alpha beta input) × (length w.aux.items ≡ length w.terminals.items) × AreFaultlessMachineAirs E machine alpha beta input × (height_sum machine input < p)
    proved w (fit, made) = (
      made.0 ∙ (λ i. plain_witness E (made_is i) (batch_same i)) ∙ witness_is E alpha beta input machine traces all,
      made.1.0 ∙ sym made.1.1,
      faultless_is E alpha beta input machine traces all (subst₂ (λ (t : ChallengeTable K) (is : List (Instance F)). AreInstancesFaultless E t is) made_is batch_same made.2),
      light,
    )

    -- what it refuses is the machine's first fault
    pub refused : input.width ≡ input_columns machine → 0 < height input → (e : BatchError)
        → (e ≡ BatchMemory) ⊎ (IsMisfit plan shown e ⊎ (FitPlan plan shown × ((fault : BatchFault) × IsFirstInstanceFault E (made_table E.ring alpha beta plan.width plan.num_ids) (plan_batch plan shown) fault × (e ≡ of_fault fault))))
        → (of_batch e ≡ Memory) ⊎ (IsHeavyInput p machine input (of_batch e) ⊎ ((height_sum machine input < p) × IsFirstAirFault E machine alpha beta input (of_batch e)))
    refused wide some e (inl memory) = inl (ap of_batch memory)
    refused wide some e (inr (inl unfit)) = absurd (unfit_traces plan shown e unfit (traces_fit wide some))
    refused wide some e (inr (inr (fit, (fault, first, is)))) =
        let own = first_fault_is E alpha beta input machine traces all fault (subst₂ (λ (t : ChallengeTable K) (is : List (Instance F)). IsFirstInstanceFault E t is fault) made_is batch_same first) in
        inr (inr (light, subst (λ (b : BatchError). IsFirstAirFault E machine alpha beta input (of_batch b)) (sym is) own))
