-- What the checks of groups answer.
use Rattle.std.specs.Prelude.{◌≡◌, ◌⊎◌, ℕ, Bool, List, MatchResult, ⊤, map}
use Rattle.std.specs.List.{filter}
use Rattle.std.specs.declared.result.Result.{Result}
use Rattle.field.specs.Ring.{Ring}
use Rattle.lookup_debug.specs.Contributions.{Contribution, Traced}
use Rattle.lookup_debug.specs.Groups.{Group, is_local, local_group, lookups_in}
use Rattle.lookup_debug.specs.Mismatch.{Balances, EachBalances, IsFirstMismatch, IsMismatchOf}
use Rattle.lookup_debug.specs.declared.fault.LookupFault.{LookupFault}
use Rattle.lookup_debug.specs.declared.fault.LookupFault.TheVariants.{Memory}

module _ {F : Type 0} (R : Ring F) (eq : F → F → Bool) where
  -- the groups of the local lookups of an AIR at this index
  abbrev pub local_groups_in : ℕ × Traced F → List (Group F)
  local_groups_in i = map (local_group R eq) (filter is_local (lookups_in i))

  module _ (text : F → List ℕ) where
    -- the answer of a check of one group
    abbrev pub AnswersGroup : List ℕ → List (Contribution F) → Result ⊤ (LookupFault F) → Type 0
    AnswersGroup label cs result = MatchResult result (λ _. Balances R eq cs) (λ e. (e ≡ Memory) ⊎ IsMismatchOf R eq text label cs e)

    -- the answer of a check of some groups, one after another
    abbrev pub AnswersGroups : List (Group F) → Result ⊤ (LookupFault F) → Type 0
    AnswersGroups gs result = MatchResult result (λ _. EachBalances R eq gs) (λ e. (e ≡ Memory) ⊎ IsFirstMismatch R eq text gs e)
