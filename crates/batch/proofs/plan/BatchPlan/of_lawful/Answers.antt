use Rattle.std.proofs.Common.{◌≡◌, ◌<◌, ◌≤◌, ℕ, List, inl, inr, map, max, refl, ap, subst, subst₂, ◌∙◌, arith}
use Rattle.std.proofs.lemmas.Result.{err_from_is_err_and}
use Rattle.std.specs.List.{AllZip}
use Rattle.lookup_model.specs.LookupDegree.{greatest}
use Rattle.lookup.specs.Guards.{IsHeightRefusal, weighted_height_sum}
use Rattle.lookup.specs.Lookups.{lookups_of}
use Rattle.lookup.specs.declared.lookups.Lookups.{Lookups}
use Rattle.batch.proofs.PlanLaws.{height_passed, plan_is}
use Rattle.batch.specs.Lists.{lists_of}
use Rattle.batch.specs.PlanFacts.{message_width, all_tuple_widths}
use Rattle.batch.specs.Plans.{plan_with}
use Rattle.batch.specs.Reaches.{IsReachOf}
use Rattle.batch.proofs.plan.BatchPlan.of_lawful.Goals as goal

pub returns-then-num_ids-CHARACTERISTIC : goal.returns-then-num_ids-CHARACTERISTIC
returns-then-num_ids-CHARACTERISTIC g c = inr (inl (omega (arith, c.if-num_ids-CHARACTERISTIC.true, c.CHARACTERISTIC.ensures), refl))

pub returns-in_err-check_multiplicity_height_bound : goal.returns-in_err-check_multiplicity_height_bound
returns-in_err-check_multiplicity_height_bound g c =
    let p = g.F.PrimeCharacteristicRing.CHARACTERISTIC in
    let error = c.in_err-check_multiplicity_height_bound.field-0.0 in
    let q = err_from_is_err_and c.from_residual.result c.from_residual.ensures.1 in
    let heavy = subst₂ (λ (sets : List (Lookups _)) (hs : List ℕ). IsHeightRefusal p (weighted_height_sum (map lookups_of sets) hs) error) c.as_slice.ensures.value c.as_slice-2.ensures.value c.in_err-check_multiplicity_height_bound.ensures.bound in
    rw (q.1, q.2) (inr (inr (omega (arith, c.if-num_ids-CHARACTERISTIC.false, c.CHARACTERISTIC.ensures), (error, heavy, height_passed p _ error heavy))))

pub invariant_of-result : goal.invariant_of-result
invariant_of-result g c =
    let p = g.F.PrimeCharacteristicRing.CHARACTERISTIC in
    let airs = c.args.airs.items in
    let m = c.args.num_ids in
    let few : m ≤ p = omega (arith, c.if-num_ids-CHARACTERISTIC.false, c.CHARACTERISTIC.ensures) in
    let light = subst₂ (λ (sets : List (Lookups _)) (hs : List ℕ). weighted_height_sum (map lookups_of sets) hs < p) c.as_slice.ensures.value c.as_slice-2.ensures.value c.in_ok-check_multiplicity_height_bound.ensures.bound in
    let width : c.max-max_message_width.result ≡ message_width airs = c.max-max_message_width.ensures ∙ ap (λ n. max n 1) (c.widest_tuple.ensures ∙ ap (λ (sets : List (Lookups _)). greatest (all_tuple_widths sets)) c.as_slice-4.ensures.value) in
    record {
      facts = plan_is p (plan_with airs c.args.heights.items c.args.ids.items c.max-max_message_width.result m) c.requires.lengths c.requires.widths.buses c.requires.widths.locals c.requires.ids few light width;
      are_reaches = subst (λ (sets : List (Lookups _)). AllZip (λ reach air. IsReachOf reach (lookups_of air)) c.in_ok-reaches.reaches.items sets) c.as_slice-3.ensures.value c.in_ok-reaches.ensures;
    }

pub returns : goal.returns
returns g c =
    let airs = c.args.airs.items in
    let width : c.max-max_message_width.result ≡ message_width airs = c.max-max_message_width.ensures ∙ ap (λ n. max n 1) (c.widest_tuple.ensures ∙ ap (λ (sets : List (Lookups _)). greatest (all_tuple_widths sets)) c.as_slice-4.ensures.value) in
    λ i. record { airs = airs; heights = c.args.heights.items; ids = lists_of c.args.ids.items; width = width i; num_ids = c.args.num_ids }
