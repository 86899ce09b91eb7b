-- The refusals of the counts of a plan and of a grid, and the bound of a grid.
use Rattle.std.proofs.Common.{◌≡◌, ◌≤◌, ◌<◌, ◌⊎◌, ◌+◌, ◌-◌, ◌*◌, ◌/◌, ◌^◌, ℕ, inl, inr, List, Option, None, Some, Ok, Err, MatchOption, length, refl, sym, ap, subst, ◌∙◌, arith}
use Rattle.std.proofs.lemmas.Bool.{cases_lt}
use Rattle.field.specs.Extension.{Extension}
use Rattle.lookup_model.specs.Batches.Counts.{AreCounts, IsCountOverflow, bad_beta_bound, message_count, unbalanced_count}
use Rattle.lookup_model.specs.Batches.Faults.{IsOutOfMemory}
use Rattle.lookup_model.specs.Batches.FlagFaults.{IsFirstFlagFault}
use Rattle.lookup_model.specs.Batches.Grid.{AcceptsPair, FewAcceptedPairs, IsNumberOf, grid, joint_bound}
use Rattle.lookup_model.specs.Batches.Instances.{Instance}
use Rattle.lookup_model.specs.Batches.Messages.{AreFlagsLawful}
use Rattle.lookup_model.specs.declared.count.SoundnessCount.{SoundnessCount}
use Rattle.lookup_model.specs.declared.fault.BatchFault.{BatchFault}
use Rattle.batch.proofs.PlanLaws.{fault_of_none}
use Rattle.batch.specs.Grids.{HaveNoRepeat, IsGridOverflow, IsGridRefusal}
use Rattle.batch.specs.Refusals.{of_fault, refusal_at}
use Rattle.batch.specs.SoundnessCounts.{IsCountingRefusal}
use Rattle.batch.specs.declared.error.BatchError.{BatchError}
use Rattle.batch.specs.declared.error.BatchError.TheVariants.{CountOverflow, Memory}
use Rattle.batch.specs.internal.Grids.{IsBoundOf}

module _ {F K : Type 0} (E : Extension F K) (instances : List (Instance F)) (W : ℕ) where
  -- what a refusal of counting is to the plan
  pub count_refused : (fault : BatchFault)
      → IsOutOfMemory fault ⊎ (IsFirstFlagFault E.base E.base_eq instances fault ⊎ (AreFlagsLawful E.base E.base_eq instances × IsCountOverflow E instances W fault))
      → (of_fault fault ≡ Memory) ⊎ IsCountingRefusal E instances W (of_fault fault)
  count_refused fault (inl memory) = inl (fault_of_none fault memory)
  count_refused fault (inr (inl first)) = inr (inl (fault, first, refl))
  count_refused fault (inr (inr (lawful, overflow))) = inr (inr (lawful, overflow.large, λ i. refusal_at (overflow.air i) (overflow.error i)))

  -- a bound of bad betas that does not fit is that of some unbalanced keys
  some_unbalanced : 2 ^ 128 ≤ bad_beta_bound E instances W → 0 < unbalanced_count E instances
  some_unbalanced large = elim (cases_lt 0 (unbalanced_count E instances)) [
    | inl some ↦ some
    | inr none ↦
        let is : unbalanced_count E instances ≡ 0 = omega (arith, none) in
        let no_pairs : W * 0 * (0 - 1) / 2 ≡ 0 = omega arith in
        absurd (omega (arith, large, ap (λ k. W * k * (k - 1) / 2) is ∙ no_pairs))
  ]

  module _ (alphas betas : List K) where
    -- what it is to a grid
    pub grid_refused : (e : BatchError) → HaveNoRepeat alphas betas → (e ≡ Memory) ⊎ IsCountingRefusal E instances W e → (e ≡ Memory) ⊎ IsGridRefusal E instances W alphas betas e
    grid_refused e distinct (inl memory) = inl memory
    grid_refused e distinct (inr (inl first)) = inr (inr (inl (distinct, first)))
    grid_refused e distinct (inr (inr (lawful, large, is))) = inr (inr (inr (distinct, lawful, record { some = some_unbalanced large; large = inl large }, is)))

    -- what a bound from the counts of the batch is
    abbrev pub IsJointBound : Option ℕ → Type 0
    IsJointBound bound = MatchOption bound (unbalanced_count E instances ≡ 0)
        (λ b. (0 < unbalanced_count E instances) × (b ≡ joint_bound E instances W (length alphas) (length betas)))

    module _ (counts : SoundnessCount) (are : AreCounts E instances W counts) where
      abbrev AreMost : Option ℕ → Type 0
      AreMost o = MatchOption o (unbalanced_count E instances ≡ 0) (λ most. (0 < unbalanced_count E instances) × (most ≡ message_count E instances + unbalanced_count E instances - 1))

      joint_is : (most : ℕ) → most ≡ message_count E instances + unbalanced_count E instances - 1 → counts.bad_betas * length alphas + most * length betas ≡ joint_bound E instances W (length alphas) (length betas)
      joint_is most is i = are.bad_betas i * length alphas + is i * length betas

      pub bound_holds : (bound : Option ℕ) → IsBoundOf counts.bad_betas counts.accepting_alphas (length alphas) (length betas) (Ok bound) → IsJointBound bound
      bound_holds bound = (elim counts.accepting_alphas as (λ o. AreMost o → IsBoundOf counts.bad_betas o (length alphas) (length betas) (Ok bound) → IsJointBound bound) [
        | None ↦ λ none is. subst IsJointBound (sym is) none
        | Some most ↦ λ (some, most_is) is. subst IsJointBound (sym is) (some, joint_is most most_is)
      ]) are.accepting_alphas

      pub bound_overflows : (e : BatchError) → IsBoundOf counts.bad_betas counts.accepting_alphas (length alphas) (length betas) (Err e) → IsGridOverflow E instances W alphas betas × (e ≡ CountOverflow)
      bound_overflows e = (elim counts.accepting_alphas as (λ o. AreMost o → IsBoundOf counts.bad_betas o (length alphas) (length betas) (Err e) → IsGridOverflow E instances W alphas betas × (e ≡ CountOverflow)) [
        | None ↦ λ none is. absurd is
        | Some most ↦ λ (some, most_is) (is, large). (record { some = some; large = inr (subst (λ (n : ℕ). 2 ^ 128 ≤ n) (joint_is most most_is) large) }, is)
      ]) are.accepting_alphas

    -- the number of accepted pairs stays within the bound
    pub stays_within : FewAcceptedPairs E instances W → HaveNoRepeat alphas betas → (accepted : ℕ) → IsNumberOf (AcceptsPair E instances W) (grid alphas betas) accepted
        → (bound : Option ℕ) → IsJointBound bound → MatchOption bound (Unit {0}) (λ b. accepted ≤ b)
    stays_within few distinct accepted number None none = tt
    stays_within few distinct accepted number (Some b) (some, b_is) =
        subst (λ (n : ℕ). accepted ≤ n) (sym b_is) (few some alphas betas distinct.0 distinct.1 accepted number)
