-- What is found over lists is found over equal ones.
use Rattle.std.proofs.Common.{◌≡◌, ◌↔◌, ℕ, All, Bool, IsTrue, List, map, subst, sym}
use Rattle.batch.specs.Plans.{Plan}
use Rattle.field.specs.Extension.{Extension}
use Rattle.field.specs.Ring.{Ring}
use Rattle.lookup_debug.specs.BusTable.{GroupRow, group_row}
use Rattle.lookup_debug.specs.Contributions.{Traced}
use Rattle.lookup_debug.specs.Groups.{groups}
use Rattle.lookup_debug.specs.Mismatch.{AllBalance}
use Rattle.lookup_debug.specs.declared.group_table.BusGroup.{BusGroup}
use Rattle.check_judge.specs.Found.{IsFound, IsPlanFound, Sized}
use Rattle.check_judge.specs.declared.report.PlanReport.{PlanReport}
use Rattle.check_judge.specs.declared.report.Report.{Report}

pub planned_over : {F K : Type 0} (E : Extension F K) (p max_degree : ℕ) (before after : List (Sized F)) (plan : Plan F) (report : PlanReport) → before ≡ after → IsPlanFound E p max_degree before plan report → IsPlanFound E p max_degree after plan report
planned_over E p max_degree before after plan report same = subst (λ sized. IsPlanFound E p max_degree sized plan report) same

module _ {F : Type 0} (R : Ring F) (eq : F → F → Bool) (before after : List (Traced F)) (same : before ≡ after) where
  -- the table of groups, and whether all balances
  pub balanced_over : (table given : List (BusGroup F)) (balanced : Bool) (limit : ℕ) (negative : F → Bool) (rows : List (GroupRow F)) → given ≡ table
      → IsTrue balanced ↔ All (λ (group : BusGroup F). group.unbalanced ≡ 0) given
      → All (λ (group : BusGroup F). group.unbalanced ≡ 0) table ↔ AllBalance R eq before
      → rows ≡ map (group_row R eq limit negative) (groups R eq before)
      → (rows ≡ map (group_row R eq limit negative) (groups R eq after)) × (IsTrue balanced ↔ AllBalance R eq after)
  balanced_over table given balanced limit negative rows is all both told = (
    subst (λ ts. rows ≡ map (group_row R eq limit negative) (groups R eq ts)) same told,
    (
      λ t. subst (AllBalance R eq) same (both.0 (subst (All (λ (group : BusGroup F). group.unbalanced ≡ 0)) is (all.0 t))),
      λ b. all.1 (subst (All (λ (group : BusGroup F). group.unbalanced ≡ 0)) (sym is) (both.1 (subst (AllBalance R eq) (sym same) b))),
    ),
  )

-- what is found within a limit is found within an equal one
pub found_within : {F K : Type 0} (E : Extension F K) (p before after max_degree : ℕ) (number : F → ℕ) (ts : List (Traced F)) (report : Report F) → before ≡ after → IsFound E p before max_degree number ts report → IsFound E p after max_degree number ts report
found_within E p before after max_degree number ts report same = subst (λ limit. IsFound E p limit max_degree number ts report) same
