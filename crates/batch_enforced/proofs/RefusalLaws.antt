-- Plans that are made, and refusals that are passed on.
use Rattle.std.proofs.Common.{◌≡◌, ℕ, Bool, List, MatchOption, None, Option, Some, arith, inl, inr, length, refl, subst, subst₂}
use Rattle.std.proofs.lemmas.List.{length-map}
use Rattle.std.specs.Option.{IsSomeAnd}
use Rattle.std.specs.declared.alloc.Global.{Global}
use Rattle.std.specs.declared.vec.Vec.{Vec}
use Rattle.air_expressions.specs.declared.base_expression.SymbolicExpression.{SymbolicExpression}
use Rattle.batch.specs.Checks.{OrMemory}
use Rattle.batch.specs.Plans.{Plan}
use Rattle.batch.specs.declared.error.BatchError.{BatchError}
use Rattle.batch.specs.declared.error.BatchError.TheVariants.{Memory}
use Rattle.batch.specs.PlanFacts.{IsPlan}
use Rattle.batch_enforced.specs.EnforcedPlans.{HaveEnforcedFlags, IsEnforcementRefusal, IsFirstUnshown, constraints_of}
use Rattle.batch_enforced.specs.PlanRefusals.{of_batch}
use Rattle.batch_enforced.specs.declared.error.EnforcementError.{EnforcementError}
use Rattle.batch_enforced.specs.declared.error.EnforcementError.TheVariants.{Flags}
use Rattle.batch_enforced.specs.declared.unshown.UnshownFlags.{UnshownFlags}
use Rattle.field.specs.Ring.{Ring}
use Rattle.lookup.specs.declared.lookups.Lookups.{Lookups}

-- a refusal of the plan is one of AIRs with constraints
pub plan_refusal : {F : Type 0} (R : Ring F) (eq : F → F → Bool) (p : ℕ) (Made : Plan F → Type 0) (Refused : BatchError → Type 0) (airs : List (Lookups F)) (heights : List ℕ) (constraints : List (List (SymbolicExpression F))) (error : BatchError)
    → length constraints ≡ length airs → OrMemory Refused error → IsEnforcementRefusal R eq p Made Refused airs heights constraints (of_batch error)
plan_refusal R eq p Made Refused airs heights constraints Memory many refusal = inl refl
plan_refusal R eq p Made Refused airs heights constraints error many (inl memory) = absurd (cc memory)
plan_refusal R eq p Made Refused airs heights constraints error many (inr refusal) = inr (inr (many, inl (error, refusal, refl)))

module _ {F : Type 0} (R : Ring F) (eq : F → F → Bool) where
  -- what is found of the flags of AIRs, of which there is one for each list of constraints
  pub record IsFound (constraints : List (Vec (SymbolicExpression F) Global)) (airs : List (Lookups F)) (heights : List ℕ) (unshown : Option UnshownFlags) : Type 0 where
    pub many : length constraints ≡ length airs
    pub found : MatchOption unshown (HaveEnforcedFlags R eq (constraints_of constraints) airs heights) (IsFirstUnshown R eq (constraints_of constraints) airs heights)

  -- it is found of the same lists
  pub found_alike : (lists constraints : List (Vec (SymbolicExpression F) Global)) (read airs : List (Lookups F)) (high heights : List ℕ) (unshown : Option UnshownFlags)
      → lists ≡ constraints → read ≡ airs → high ≡ heights → IsFound lists read high unshown → IsFound constraints airs heights unshown
  found_alike lists constraints read airs high heights unshown same_lists same_airs same_heights found =
      subst (λ (cs : List (Vec (SymbolicExpression F) Global)). IsFound cs airs heights unshown) same_lists (subst₂ (λ (sets : List (Lookups F)) (hs : List ℕ). IsFound lists sets hs unshown) same_airs same_heights found)

  -- flags that are not shown are refused
  pub unshown_refusal : (p : ℕ) (Made : Plan F → Type 0) (Refused : BatchError → Type 0) (constraints : List (Vec (SymbolicExpression F) Global)) (airs : List (Lookups F)) (heights : List ℕ) (unshown : Option UnshownFlags) (plan : Plan F)
      → IsPlan p plan → Made plan → IsFound constraints airs heights unshown → (e : EnforcementError) → IsSomeAnd unshown (λ flags. e ≡ Flags flags) → IsEnforcementRefusal R eq p Made Refused airs heights (constraints_of constraints) e
  unshown_refusal p Made Refused constraints airs heights None plan facts made found e is = absurd is
  unshown_refusal p Made Refused constraints airs heights (Some u) plan facts made found e is =
      inr (inr (omega (arith, length-map constraints (λ list. list.items), found.many), inr (plan, facts, made, (u, found.found, is))))
