-- What is found of a batch beside its messages: constraints on rows, what they enforce, and counts above `at most`.
use Rattle.std.specs.Prelude.{◌↔◌, ℕ, All, Bool, IsTrue, List}
use Rattle.std.specs.List.{AllZip}
use Rattle.field.specs.Ring.{Ring}
use Rattle.check_judge.specs.Constraints.{AllHold, AreChecked, Constrained}
use Rattle.check_judge.specs.Enforced.{AreEnforcedOver, IsAllEnforced}
use Rattle.check_judge.specs.Excesses.{AllStayWithin, AreExcesses}
use Rattle.check_judge.specs.declared.report.Report.{Report}

-- Of each AIR what is found of its constraints on the rows of its traces, what they are shown to enforce on all traces of
-- this height with this preprocessed trace, and which counts are above what is said; and whether constraints hold, all is
-- enforced, and no count is above.
pub record AreConstraintsFound {F : Type 0} (R : Ring F) (eq : F → F → Bool) (p : ℕ) (number : F → ℕ) (airs : List (Constrained F)) (report : Report F) : Type 0 where
  pub checked : AreChecked R airs report.failures.items
  pub hold : IsTrue report.hold ↔ AllHold R airs
  pub enforced : AreEnforcedOver R eq airs report.enforced.airs.items
  pub all_enforced : IsTrue report.enforced.all ↔ All IsAllEnforced report.enforced.airs.items
  pub excesses : AllZip (λ x found. AreExcesses p number R eq x found.items) airs report.excesses.items
  pub within : IsTrue report.within ↔ AllStayWithin p number R eq airs
