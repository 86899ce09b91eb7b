use Rattle.std.proofs.Common.{◌≡◌, ◌↔◌, ◌⊎◌, ℕ, IsTrue, List, inl, inr, length, refl, sym, ap, subst, subst₂, ◌∙◌}
use Rattle.std.proofs.lemmas.Result.{MatchResult-weaker, err_from_is_err_and}
use Rattle.std.specs.declared.alloc.Global.{Global}
use Rattle.std.specs.declared.vec.Vec.{Vec}
use Rattle.lookup.specs.declared.lookups.Lookups.{Lookups}
use Rattle.batch.proofs.PlanLaws.{first_refused}
use Rattle.batch.specs.Checks.{HaveEvenWidths, IsFirstRefusal, IsIdsRefusal}
use Rattle.batch.specs.Lists.{lists_of}
use Rattle.batch.specs.PlanFacts.{AreAssigned}
use Rattle.batch.specs.declared.error.BatchError.TheVariants.{Memory}
use Rattle.batch.proofs.plan.BatchPlan.with_ids.Goals as goal

pub returns-in_err-check_airs : goal.returns-in_err-check_airs
returns-in_err-check_airs g c =
    let q = err_from_is_err_and c.from_residual.result c.from_residual.ensures.1 in
    let e = c.in_err-check_airs.field-0.0 in
    rw (q.1, q.2) (first_refused c.args.airs.items c.args.heights.items (IsIdsRefusal g.F.PrimeCharacteristicRing.CHARACTERISTIC c.args.airs.items c.args.heights.items (lists_of c.args.ids.items) c.args.num_ids) e
    (subst₂ (λ (sets : List (Lookups _)) (hs : List ℕ). (e ≡ Memory) ⊎ IsFirstRefusal sets hs (λ _. ⊥) e) c.as_slice.ensures.value c.as_slice-2.ensures.value c.in_err-check_airs.ensures))

pub returns-then-not-branch : goal.returns-then-not-branch
returns-then-not-branch g c =
    let says = subst₂ (λ (sets : List (Lookups _)) (lists : List (Vec ℕ Global)). IsTrue c.in_ok-are_assigned.field-0 ↔ AreAssigned (lists_of lists) sets c.args.num_ids) c.as_slice-3.ensures.value c.as_slice-4.ensures.value c.in_ok-are_assigned.ensures in
    let same = sym (ap length c.as_slice-2.ensures.value) ∙ c.in_ok-check_airs.ensures.0 ∙ ap length c.as_slice.ensures.value in
    let even = subst (λ (sets : List (Lookups _)). HaveEvenWidths sets) c.as_slice.ensures.value c.in_ok-check_airs.ensures.1 in
    inr (inr (same, inr (even.buses, inr (even.locals, inl ((λ assigned. cc (says.1 assigned, c.if-not-branch.true)), refl)))))

pub of_lawful-requires-clause-lengths : goal.of_lawful-requires-clause-lengths
of_lawful-requires-clause-lengths g c = sym (ap length c.as_slice-2.ensures.value) ∙ c.in_ok-check_airs.ensures.0 ∙ ap length c.as_slice.ensures.value

pub of_lawful-requires-clause-widths : goal.of_lawful-requires-clause-widths
of_lawful-requires-clause-widths g c = subst (λ (sets : List (Lookups _)). HaveEvenWidths sets) c.as_slice.ensures.value c.in_ok-check_airs.ensures.1

pub of_lawful-requires-clause-ids : goal.of_lawful-requires-clause-ids
of_lawful-requires-clause-ids g c =
    let says = subst₂ (λ (sets : List (Lookups _)) (lists : List (Vec ℕ Global)). IsTrue c.in_ok-are_assigned.field-0 ↔ AreAssigned (lists_of lists) sets c.args.num_ids) c.as_slice-3.ensures.value c.as_slice-4.ensures.value c.in_ok-are_assigned.ensures in
    says.0 (cc c.if-not-branch.false)

pub returns : goal.returns
returns g c =
    let says = subst₂ (λ (sets : List (Lookups _)) (lists : List (Vec ℕ Global)). IsTrue c.in_ok-are_assigned.field-0 ↔ AreAssigned (lists_of lists) sets c.args.num_ids) c.as_slice-3.ensures.value c.as_slice-4.ensures.value c.in_ok-are_assigned.ensures in
    let same = sym (ap length c.as_slice-2.ensures.value) ∙ c.in_ok-check_airs.ensures.0 ∙ ap length c.as_slice.ensures.value in
    let even = subst (λ (sets : List (Lookups _)). HaveEvenWidths sets) c.as_slice.ensures.value c.in_ok-check_airs.ensures.1 in
    MatchResult-weaker c.of_lawful.result c.of_lawful.ensures
    (λ plan is. record { is = is; widths = even })
    (λ e refused. elim refused [
      | inl memory ↦ inl memory
      | inr size ↦ inr (inr (same, inr (even.buses, inr (even.locals, inr (says.0 (cc c.if-not-branch.false), size)))))
    ])
